-- Calls that are typed, one after the other.
use Rattle.std.proofs.Common.{◌≡◌, ℕ, ◌+◌, ◌<◌, List, Result, Ok, length, take, get_or, sym, subst, ◌∙◌}
use Rattle.std.proofs.lemmas.List.Elements.{All-more}
use Rattle.std.specs.Arc.{arc_value}
use Rattle.std.specs.declared.alloc.Global.{Global}
use Rattle.std.specs.declared.sync.Arc.{Arc}
use Rattle.poets_syntax.specs.declared.term.Book.{Book}
use Rattle.poets_report.specs.declared.report.Report.{Report}
use Rattle.poets_report.specs.Reports.{report_of}
use Rattle.poets_syntax.specs.Book.{book_of}
use Rattle.std.specs.Prelude.{map}
use Rattle.poets_command.specs.Calls.{command_of}
use Rattle.poets_command.specs.declared.call.Command.{Command}
use Rattle.poets_command.proofs.TypingRules.{command_typed}
use Rattle.poets_types.specs.declared.cause.TypeCause.{TypeCause}
use Rattle.poets_types.specs.Calls.{AreTypedCalls}
use Rattle.poets_types.specs.code.Checks.{command_verdict}
use Rattle.poets_types.specs.Verdicts.{CommandIsTyped}
use Rattle.poets_types.specs.code.Answers.{answer_of}
use Rattle.poets_types.proofs.Checks.{passes_from_ok}

-- one more call is typed
pub typed_more : (book : Book) (reports : List Report) (calls : List (ℕ × Arc Command Global)) (i : ℕ) (call : ℕ × Arc Command Global) (result : Result (Unit {0}) TypeCause) (u : Unit {0}) →
    i < length calls → call ≡ get_or calls i call → result ≡ answer_of (command_verdict book reports (arc_value call.1)) → result ≡ Ok u →
    AreTypedCalls book reports (take i calls) → AreTypedCalls book reports (take (i + 1) calls)
typed_more book reports calls i call result u within at answer ok ahead =
    let Is : ℕ × Arc Command Global → Type 0 = λ c. CommandIsTyped book reports (arc_value c.1) in
    let passes = passes_from_ok (command_verdict book reports (arc_value call.1)) u (sym answer ∙ ok) in
    let typed = command_typed (book_of book) (map report_of reports) (command_of (arc_value call.1)) passes in
    All-more Is calls i call within ahead (subst Is at typed)
