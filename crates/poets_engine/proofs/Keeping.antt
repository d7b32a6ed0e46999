-- What an engine keeps is what its commands stand on.
use Rattle.std.proofs.Common.{List, [], ◌∷◌, map, sym, subst}
use Rattle.std.specs.List.{All, AllZip}
use Rattle.std.proofs.lemmas.List.Elements.{All-nil, All-cons}
use Rattle.poets_value.specs.declared.value.Name.{Name}
use Rattle.poets_expr.specs.Expression.{Expression}
use Rattle.poets_live.specs.Watching.{WatchView, Follows}
use Rattle.poets_rules.specs.declared.rules.Rules.{Rules}
use Rattle.poets_rules.specs.Rules.{book_of_rules}
use Rattle.poets_history.specs.Ledger.{Ledger, events}
use Rattle.poets_engine.specs.Store.{StoreView}
use Rattle.poets_engine.specs.Rows.{IsLedger, WatchIs}
use Rattle.poets_engine.specs.code.Judgements.{AreKept}
use Rattle.poets_engine.specs.code.Withdrawals.{IsKeptStore}
use Rattle.poets_engine.proofs.Rows.{rows_kept}
use Rattle.poets_engine.proofs.Standing.{study}

module _ (rules : Rules) (l : Ledger) (store : StoreView) (h : IsLedger rules l store) where
  follow : (asked : List (Name × List Expression)) (ws : List WatchView) → AllZip (WatchIs rules l) asked ws → All (Follows (book_of_rules rules).declared (events l)) ws
  follow [] [] z = All-nil (Follows (book_of_rules rules).declared (events l))
  follow [] (w ∷ ws) z = elim z [ ]
  follow (x ∷ asked) [] z = elim z [ ]
  follow (x ∷ asked) (w ∷ ws) z = All-cons (Follows (book_of_rules rules).declared (events l)) w ws z.0.follows (follow asked ws z.1)

  -- the watches follow the log
  pub watches_follow : All (Follows (book_of_rules rules).declared (map (λ p. p.1) store.log)) store.watches
  watches_follow = subst (λ log. All (Follows (book_of_rules rules).declared (map (λ p. p.1) log)) store.watches) (sym h.log) (follow l.watches store.watches h.watches)

-- what is owed on each contract is such as is kept
pub kept_rows : (rules : Rules) (store : StoreView) → IsKeptStore rules store → AreKept rules.studied store.rows
kept_rows rules store k = rows_kept rules.studied (study rules k.ledger store k.is) k.ledger 1 store.rows k.is.rows
