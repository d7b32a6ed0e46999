use Rattle.std.proofs.Common.{◌≡◌, map, take}
use Rattle.poets_value.specs.declared.value.Name.{Name}
use Rattle.poets_expr.specs.Env.{declared_of}
use Rattle.poets_syntax.specs.Book.{template_of}
use Rattle.poets_report.specs.Reports.{report_of}
use Rattle.poets_command.specs.Statements.{statements_of}
use Rattle.poets_command.specs.Declarations.{book_from, reports_of}
use Rattle.poets_types.proofs.book.gather.Given as goal

-- what the statements so far declare
abbrev pub invariant-loop-statement : goal.invariant-loop-statement
invariant-loop-statement l = record {
  declared : (x : Name) → declared_of l.checked.book.decls.names x ≡ (book_from (statements_of (take l.statement-index l.statements))).declared x;
  templates : map template_of l.checked.book.templates.items ≡ (book_from (statements_of (take l.statement-index l.statements))).templates;
  reports : map report_of l.checked.reports.items ≡ reports_of (statements_of (take l.statement-index l.statements));
}
