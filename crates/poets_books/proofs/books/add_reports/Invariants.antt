use Rattle.std.proofs.Common.{take}
use Rattle.poets_books.specs.code.Putting.{Adds, report_texts}
use Rattle.poets_books.proofs.books.add_reports.Given as goal

abbrev pub invariant-loop-report : goal.invariant-loop-report
invariant-loop-report l =
    Adds l.initial.texts.items l.texts.items (report_texts l.names (take l.report-index l.reports))
