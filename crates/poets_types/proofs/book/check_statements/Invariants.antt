use Rattle.std.proofs.Common.{◌≡◌, ◌+◌, map, drop}
use Rattle.poets_report.specs.Reports.{report_of}
use Rattle.poets_command.specs.Statements.{statements_of}
use Rattle.poets_command.specs.TypedStatements.{mistyped_from}
use Rattle.poets_types.specs.code.Indices.{book_in}
use Rattle.poets_types.proofs.book.check_statements.Given as goal

-- the rest gives the answer
abbrev pub invariant-loop-place : goal.invariant-loop-place
invariant-loop-place l =
    mistyped_from 1 (book_in l.index) (map report_of l.index.reports.now) (statements_of l.statements)
    ≡ mistyped_from (l.place + 1) (book_in l.index) (map report_of l.index.reports.now) (statements_of (drop l.place l.statements))
