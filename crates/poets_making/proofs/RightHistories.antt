-- Legal histories of typed calls are right.
use Rattle.std.proofs.Common.{◌≡◌, ℕ, List, take, sym, subst}
use Rattle.std.specs.List.{All}
use Rattle.std.proofs.lemmas.List.Elements.{All-map, All-take}
use Rattle.std.specs.Arc.{arc_value}
use Rattle.std.specs.declared.alloc.Global.{Global}
use Rattle.std.specs.declared.sync.Arc.{Arc}
use Rattle.poets_meaning.specs.Studied.{IsStudiedBook}
use Rattle.poets_command.specs.declared.call.Command.{Command as CodeCommand}
use Rattle.poets_command.specs.Calls.{Call, calls_of, command_of}
use Rattle.poets_command.specs.Plain.{Entry}
use Rattle.poets_command.specs.Taken.{IsTaken}
use Rattle.poets_command.specs.Typing.{IsTypedCommand}
use Rattle.poets_rules.specs.declared.rules.Rules.{Rules}
use Rattle.poets_rules.specs.Rules as R
use Rattle.poets_history.specs.Histories.{IsLegal, IsRightHistory}
use Rattle.poets_engine.proofs.ShownResiduals.{legal_histories_show}
use Rattle.poets_session.specs.Sessions.{calls_in}
use Rattle.poets_making.specs.Noted.{AreTaken}
use Rattle.poets_making.proofs.Taking.{All-of_map}

-- a legal history of typed calls is right
pub right_history : (rules : Rules) (h : List Entry) → IsStudiedBook (R.book_of_rules rules) rules.studied.marks → IsLegal (R.book_of_rules rules) (R.reports_of_rules rules) h →
    All (λ (call : Call). IsTypedCommand (R.book_of_rules rules) (R.reports_of_rules rules) call.1) (calls_of h) → IsRightHistory (R.book_of_rules rules) (R.reports_of_rules rules) h
right_history rules h studied legal typed = record {
  legal = legal;
  shows = legal_histories_show (R.book_of_rules rules) rules.studied.marks (R.reports_of_rules rules) h studied legal
      (All-of_map (λ (call : Call). IsTypedCommand (R.book_of_rules rules) (R.reports_of_rules rules) call.1) (λ (e : Entry). (e.clerk, e.command)) h typed);
}

-- a legal history of calls that are taken is right
pub right_made : (rules found : Rules) (h : List Entry) (calls : List (ℕ × Arc CodeCommand Global)) (n : ℕ) → found ≡ rules →
    IsStudiedBook (R.book_of_rules rules) rules.studied.marks → IsLegal (R.book_of_rules found) (R.reports_of_rules found) h → AreTaken rules calls →
    calls_of h ≡ calls_in (take n calls) → IsRightHistory (R.book_of_rules rules) (R.reports_of_rules rules) h
right_made rules found h calls n same studied legal taken made =
    let front = All-take (λ (p : ℕ × Arc CodeCommand Global). IsTaken (R.book_of_rules rules) (R.reports_of_rules rules) (command_of (arc_value p.1))) n calls taken in
    right_history rules h studied (subst (λ r. IsLegal (R.book_of_rules r) (R.reports_of_rules r) h) same legal)
    (subst (All (λ call. IsTypedCommand (R.book_of_rules rules) (R.reports_of_rules rules) call.1)) (sym made)
    (All-map (λ (call : Call). IsTypedCommand (R.book_of_rules rules) (R.reports_of_rules rules) call.1) (λ (p : ℕ × Arc CodeCommand Global). (p.0, command_of (arc_value p.1))) (take n calls)
    (λ k d lt. (front k d lt).typed)))
