-- The account of a contract is right in each ledger of what is kept.
use Rattle.std.proofs.Common.{◌≡◌, ℕ, ◌+◌, ◌-◌, List, ◌++◌, Option, Some, None, slice_get, sym, ◌∙◌, ap, subst, append-nil, arith, [], ◌∷◌}
use Rattle.std.specs.List.{All}
use Rattle.poets_value.specs.declared.value.Name.{Name}
use Rattle.poets_value.specs.declared.event.Event.{Event}
use Rattle.poets_syntax.specs.Applied.{CountsFit}
use Rattle.poets_syntax.specs.Contract.{contract_of}
use Rattle.poets_syntax.specs.declared.term.Term.{Term}
use Rattle.poets_syntax.specs.WellFormed.{IsWellFormed, IsDeclaredEvent}
use Rattle.poets_meaning.specs.Studied.{marks_of}
use Rattle.poets_calculus.specs.Residual.{residual_after}
use Rattle.poets_residue.proofs.Traces.{trace_fit}
use Rattle.poets_cons.specs.declared.node.Node.{Node}
use Rattle.poets_table.specs.Pieces.{joined}
use Rattle.poets_table.specs.TableView.{RowView, number_named}
use Rattle.poets_command.specs.Plain.{Entry}
use Rattle.poets_command.specs.Calls.{Call, calls_of}
use Rattle.poets_rules.specs.declared.rules.Rules.{Rules}
use Rattle.poets_rules.specs.Rules.{book_of_rules, reports_of_rules}
use Rattle.poets_history.specs.Ledger.{ledger_of}
use Rattle.poets_history.specs.Frame.{frame_of}
use Rattle.poets_history.specs.Histories.{IsLegal}
use Rattle.poets_history.proofs.Histories.{one_history}
use Rattle.poets_engine.specs.Accounts.{Accounts}
use Rattle.poets_engine.specs.Rows.{IsStoreOf}
use Rattle.poets_engine.specs.Store.{StoreView}
use Rattle.poets_engine.specs.code.Accounted.{AccountsInStore, IsAccountOfRow}
use Rattle.poets_engine.specs.code.Withdrawals.{IsKeptStore}
use Rattle.poets_engine.specs.declared.accounts.Account.{Account}
use Rattle.poets_engine.proofs.Points.{between, between-more, joined-append}
use Rattle.poets_engine.proofs.Standing.{study, absent, stood}

-- the events of one piece more
pub listed_more : (place : ℕ) (pieces : List (List Event)) (piece : List Event) → slice_get pieces place ≡ Some piece →
    joined (between 0 (place + 1) pieces) ≡ joined (between 0 place pieces) ++ piece
listed_more place pieces piece here =
    ap joined (between-more 0 place pieces piece (omega arith) here) ∙ joined-append (between 0 place pieces) (piece ∷ [])
    ∙ ap (λ p. joined (between 0 place pieces) ++ p) (append-nil piece)

module _ (rules : Rules) (x : Name) (store : StoreView) where
  pub none_accounted : number_named x store.rows ≡ None → AccountsInStore rules store x None
  none_accounted none = record { right = λ l h. absent rules l x store h none; formed = tt }

  pub some_accounted : IsKeptStore rules store → (n : ℕ) (r : RowView Term (List Node)) (a : Account) → number_named x store.rows ≡ Some n →
      slice_get store.rows (n - 1) ≡ Some r → IsAccountOfRow r a → AccountsInStore rules store x (Some a)
  some_accounted kept n r a found row is =
      let book = book_of_rules rules in
      let marks = marks_of rules.studied in
      let original = contract_of r.original in
      let here = (stood rules kept.ledger x store kept.is n r found row).is in
      let fits = trace_fit book marks (study rules kept.ledger store kept.is) original here.formed here.fit r.events here.declared in
      record {
        right = λ l h.
            let c = stood rules l x store h n r found row in
            let owed = is.residual ∙ c.is.current ∙ ap (residual_after book marks original) c.is.events in (
              (1 + c.place, original),
              c.named,
              record {
                original = is.original;
                residual = owed;
                events = is.events ∙ c.is.events;
                ended = is.ended ∙ c.is.ended;
              },
            );
        formed = record {
          formed = subst (IsWellFormed book.declared) (sym is.original) here.formed;
          original = subst (CountsFit book) (sym is.original) here.fit;
          residual = subst (CountsFit book) (sym (is.residual ∙ here.current)) fits;
          events = subst (All (IsDeclaredEvent book.declared)) (sym is.events) here.declared;
        };
      }

-- so it is after each legal history of the calls
pub accounted_after : (rules : Rules) (calls : List Call) (store : StoreView) (x : Name) (found : Option Account) → IsStoreOf rules calls store →
    AccountsInStore rules store x found → (h : List Entry) → IsLegal (book_of_rules rules) (reports_of_rules rules) h → calls_of h ≡ calls →
    Accounts rules.studied (ledger_of h) x found
accounted_after rules calls store x found stands is h legal same =
    let one = one_history (frame_of (book_of_rules rules) (reports_of_rules rules)) stands.history h stands.legal legal (stands.same ∙ sym same) in
    subst (λ g. Accounts rules.studied (ledger_of g) x found) one (is.right (ledger_of stands.history) stands.ledger)
