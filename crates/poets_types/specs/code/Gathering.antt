-- What a statement adds to what was gathered before it.
use Rattle.std.specs.Prelude.{◌≡◌, ◌++◌, None, map}
use Rattle.poets_expr.specs.declared.env.Decls.{Decls}
use Rattle.poets_syntax.specs.Book.{template_of}
use Rattle.poets_syntax.specs.TypeOf.{Scope, type_in}
use Rattle.poets_report.specs.Reports.{report_of}
use Rattle.poets_command.specs.declared.statement.Statement.{Statement}
use Rattle.poets_command.specs.Statements.{statement_of}
use Rattle.poets_command.specs.Declarations.{agents_and_kinds, template_in_statement}
use Rattle.poets_command.specs.Declarations.{report_in_statement}
use Rattle.poets_types.specs.declared.book.Checked.{Checked}
use Rattle.poets_types.specs.code.Tables.{AreEntered}

-- the names are declared with these types, each where it was not declared
abbrev pub AreDeclared : Scope → (old new : Decls) → Type 0
AreDeclared types old new = AreEntered (type_in (λ _. None) types) old.names new.names

-- the agents and the kinds of the statement are declared, each where it was not declared
abbrev pub AddsNames : Statement → (old new : Checked) → Type 0
AddsNames statement old new = AreDeclared (agents_and_kinds (statement_of statement)) old.book.decls new.book.decls

-- the template of the statement, if it is one, stands behind those that were gathered
abbrev pub AddsTemplate : Statement → (old new : Checked) → Type 0
AddsTemplate statement old new =
    map template_of new.book.templates.items
    ≡ map template_of old.book.templates.items ++ template_in_statement (statement_of statement)

-- the report of the statement, if it is one, stands behind those that were gathered
abbrev pub AddsReport : Statement → (old new : Checked) → Type 0
AddsReport statement old new =
    map report_of new.reports.items ≡ map report_of old.reports.items ++ report_in_statement (statement_of statement)
