-- What a typed command is.
use Rattle.std.proofs.Common.{List, [], sym}
use Rattle.poets_value.specs.declared.value.Name.{Name}
use Rattle.poets_expr.specs.Expression.{Expression}
use Rattle.poets_syntax.specs.Plain.{Book}
use Rattle.poets_syntax.proofs.Counts.{CountsFit-fit}
use Rattle.poets_syntax.proofs.Typedness.{ApplicationsFit-typed, IsWellFormed-typed}
use Rattle.poets_syntax.proofs.TypingRules.{contract_passes, fit_long}
use Rattle.poets_report.specs.Plain.{Report}
use Rattle.poets_command.specs.Plain.{Command}
use Rattle.poets_command.specs.Laws.{TypedRegistration, TypedEvent, TypedReport, IsReportOf}
use Rattle.poets_command.specs.TypedStatements.{report_names}
use Rattle.poets_command.specs.Typing.{IsTypedCall}
use Rattle.poets_command.specs.Typing as R

pub typed_event : TypedEvent
typed_event book reports x e (R.Delivers h) = h

pub typed_registration : TypedRegistration
typed_registration book reports x c (R.Registers h) =
    let passes = contract_passes book (report_names reports) [] c h in
    (IsWellFormed-typed book (report_names reports) [] c passes, CountsFit-fit book c (ApplicationsFit-typed book (report_names reports) [] c passes))

report_called : (book : Book) (reports : List Report) (x : Name) (args : List Expression) → IsTypedCall book reports x args → IsReportOf reports x args
report_called book reports x args h = (h.report, h.found, sym (fit_long book.declared [] h.report.params args h.fit))

pub typed_report : TypedReport
typed_report = record {
  tally = λ book reports x args h. of_tally book reports x args h;
  portfolio = λ book reports x args over h. of_portfolio book reports x args over h;
  watch = λ book reports x args h. of_watch book reports x args h;
}
  where
    of_tally : (book : Book) (reports : List Report) (x : Name) (args : List Expression) → R.IsTypedCommand book reports (Command.Tally x args) → IsReportOf reports x args
    of_tally book reports x args (R.Tallies h) = report_called book reports x args h

    of_portfolio : (book : Book) (reports : List Report) (x : Name) (args : List Expression) (over : List Name) → R.IsTypedCommand book reports (Command.Portfolio x args over) → IsReportOf reports x args
    of_portfolio book reports x args over (R.Lists h) = report_called book reports x args h

    of_watch : (book : Book) (reports : List Report) (x : Name) (args : List Expression) → R.IsTypedCommand book reports (Command.Watch x args) → IsReportOf reports x args
    of_watch book reports x args (R.Watches h) = report_called book reports x args h
