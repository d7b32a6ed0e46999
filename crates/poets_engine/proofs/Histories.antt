-- One call more in a history.
use Rattle.std.proofs.Common.{◌≡◌, ℕ, List, [], ◌∷◌, ◌++◌, map, length, ◌≤◌, refl, sym, ◌∙◌, ap, subst}
use Rattle.std.specs.List.{AllZip}
use Rattle.std.proofs.lemmas.List.Elements.{All-nil}
use Rattle.std.proofs.lemmas.List.{map-append, length-map}
use Rattle.std.specs.declared.alloc.Global.{Global}
use Rattle.std.specs.declared.sync.Arc.{Arc}
use Rattle.std.specs.Arc.{arc_value}
use Rattle.poets_syntax.specs.Contract.{contract_of}
use Rattle.poets_syntax.specs.Whole.{IsWholeBook}
use Rattle.poets_meaning.specs.Studied.{IsStudiedBook}
use Rattle.poets_command.specs.declared.call.Command.{Command}
use Rattle.poets_command.specs.Plain.{Reply, Entry}
use Rattle.poets_command.specs.Calls.{Call, command_of}
use Rattle.poets_command.specs.Plain as plain
use Rattle.poets_rules.specs.declared.rules.Rules.{Rules}
use Rattle.poets_rules.specs.Rules.{book_of_rules, reports_of_rules}
use Rattle.poets_history.specs.Histories.{RepliesIn, AnswersIn}
use Rattle.poets_history.specs.Ledger.{ledger_of, empty_ledger}
use Rattle.poets_history.specs.Replies.{Legal}
use Rattle.poets_history.proofs.Histories.{ledger_last, calls_last}
use Rattle.poets_engine.specs.Store.{StoreView}
use Rattle.poets_engine.specs.State.{commands_of, plain_calls}
use Rattle.poets_engine.specs.Rows.{IsLedger, RowsAre, WatchIs, IsStoreOf}
use Rattle.poets_engine.specs.code.Makes.{Makes}

-- nothing kept is the empty ledger
pub empty_stands : (rules : Rules) (calls : List Call) (store : StoreView) → IsStudiedBook (book_of_rules rules) rules.studied.marks → IsWholeBook (book_of_rules rules) →
    calls ≡ [] → store.rows ≡ [] → store.log ≡ [] → store.watches ≡ [] → IsStoreOf rules calls store
empty_stands rules calls store studied whole c r l w = record {
  history = [];
  legal = Legal.Empty;
  same = sym c;
  ledger = record {
    studied = studied;
    whole = whole;
    contracts = ap (map (λ r. (r.name, contract_of r.original))) r;
    log = l;
    rows = subst (RowsAre rules.studied empty_ledger 1) (sym r) tt;
    watches = subst (AllZip (WatchIs rules empty_ledger) []) (sym w) tt;
    logged = All-nil (λ p. p.0 ≤ length store.rows);
    ended = All-nil (λ n. n ≤ length store.rows);
  };
}

module _ (rules : Rules) (calls : List Call) (command : plain.Command) (given_reply : Reply) (old new : StoreView)
    (h : IsStoreOf rules calls old) (makes : Makes rules command old new given_reply) where
  reply : RepliesIn (book_of_rules rules) (reports_of_rules rules) (ledger_of h.history) command given_reply
  reply = makes.reply (ledger_of h.history) h.ledger

  -- with one more entry what is kept is the ledger of a legal history again
  pub stands_more : (clerk : ℕ) → IsStoreOf rules (calls ++ (clerk, command) ∷ []) new
  stands_more clerk =
      let e : Entry = record { clerk = clerk; command = command; reply = given_reply } in
      record {
        history = h.history ++ e ∷ [];
        legal = Legal.More e h.legal reply;
        same = calls_last h.history e ∙ ap (λ cs. cs ++ (clerk, command) ∷ []) h.same;
        ledger = subst (λ l. IsLedger rules l new) (sym (ledger_last h.history e)) (makes.store (ledger_of h.history) h.ledger);
      }

  pub answered : AnswersIn (book_of_rules rules) (reports_of_rules rules) calls command given_reply
  answered = record { history = h.history; legal = h.legal; same = h.same; reply = reply }

pub commands_last : (h h' : List (ℕ × Arc Command Global)) (clerk : ℕ) (a : Arc Command Global) (command : Command) → h' ≡ h ++ (clerk, a) ∷ [] → arc_value a ≡ command →
    commands_of h' ≡ commands_of h ++ (clerk, command) ∷ []
commands_last h h' clerk a command e v =
    ap commands_of e ∙ map-append (λ p. (p.0, arc_value p.1)) h ((clerk, a) ∷ []) ∙ ap (λ c. commands_of h ++ (clerk, c) ∷ []) v

pub plain_last : (calls : List (ℕ × Command)) (clerk : ℕ) (command : Command) → plain_calls (calls ++ (clerk, command) ∷ []) ≡ plain_calls calls ++ (clerk, command_of command) ∷ []
plain_last calls clerk command = map-append (λ p. (p.0, command_of p.1)) calls ((clerk, command) ∷ [])

pub length-plain_calls : (h : List (ℕ × Arc Command Global)) → length (plain_calls (commands_of h)) ≡ length h
length-plain_calls h = length-map (commands_of h) (λ p. (p.0, command_of p.1)) ∙ length-map h (λ p. (p.0, arc_value p.1))
