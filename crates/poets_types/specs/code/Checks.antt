-- The plain checks, of what the code has at hand.
use Rattle.std.specs.Prelude.{List, [], ◌∷◌, ◌++◌, map}
use Rattle.poets_value.specs.declared.value.Name.{Name}
use Rattle.poets_expr.specs.declared.env.Decls.{Decls}
use Rattle.poets_expr.specs.declared.expr.Expr.{Expr}
use Rattle.poets_expr.specs.Env.{Declared, declared_of}
use Rattle.poets_expr.specs.Expression.{expression_of}
use Rattle.poets_syntax.specs.declared.term.Book.{Book}
use Rattle.poets_syntax.specs.declared.term.Param.{Param}
use Rattle.poets_syntax.specs.declared.term.Term.{Term}
use Rattle.poets_syntax.specs.Contract.{contract_of}
use Rattle.poets_syntax.specs.Book.{book_of}
use Rattle.poets_syntax.specs.TypeOf.{Verdict}
use Rattle.poets_syntax.specs.TypeOf as T
use Rattle.poets_syntax.specs.Typed.{check_new, check_type, check_contract, types_bound}
use Rattle.poets_report.specs.declared.report.Report.{Report}
use Rattle.poets_report.specs.Reports.{report_of}
use Rattle.poets_command.specs.declared.statement.Statement.{Statement}
use Rattle.poets_command.specs.Statements.{statements_of}
use Rattle.poets_command.specs.Reports.{report_in}
use Rattle.poets_command.specs.Plain.{TypeFault}
use Rattle.poets_command.specs.Plain as plain
use Rattle.poets_command.specs.declared.call.Command.{Command}
use Rattle.poets_command.specs.Calls.{command_of}
use Rattle.poets_command.specs.TypedStatements.{report_names, check_command}
use Rattle.poets_command.specs.TypedStatements.{check_report_arguments, mistyped_from}
use Rattle.poets_types.specs.declared.index.Index.{Index}
use Rattle.poets_types.specs.declared.scope.Scope.{Scope}
use Rattle.poets_types.specs.code.Indices.{book_in, reports_in, used_in}
use Rattle.poets_types.specs.code.Scopes.{names_in}

-- the check under the declared names and the names in scope
abbrev pub under : {A : Type 0} → Decls → Scope → (Declared → T.Scope → A) → A
under decls scope check = check (declared_of decls.names) (names_in scope)

-- the check in the book of the index, beside the names of its reports
abbrev pub in_book : {A : Type 0} → Index → (plain.Book → List Name → A) → A
in_book index check = check (book_in index) (reports_in index)

-- the check in the book of the index, with its reports
abbrev pub with_reports : {A : Type 0} → Index → (plain.Book → List plain.Report → A) → A
with_reports index check = check (book_in index) (map report_of index.reports.now)

-- whether the parameters have new names
abbrev pub params_verdict : Index → List Param → Verdict (Unit {0})
params_verdict index params = check_new (used_in index) [] (map (λ p. p.name) params)

-- whether the step of a report has the report's type, under the parts of an event and the value so
-- far
abbrev pub step_verdict : Declared → T.Scope → plain.Report → Verdict (Unit {0})
step_verdict declared scope q = check_type declared (types_bound q.binders ++ (q.carry, q.ty) ∷ scope) q.ty q.step

-- whether the contract is typed in the book beside the reports, or its first fault
abbrev pub term_verdict : Book → List Report → Term → Verdict (Unit {0})
term_verdict book reports term =
    check_contract (book_of book) (report_names (map report_of reports)) [] (contract_of term)

-- whether the command is typed in the book with the reports, or its first fault
abbrev pub command_verdict : Book → List Report → Command → Verdict (Unit {0})
command_verdict book reports command = check_command (book_of book) (map report_of reports) (command_of command)

-- whether a report with the name takes the arguments
abbrev pub arguments_verdict : Decls → List Report → Name → List Expr → Verdict (Unit {0})
arguments_verdict decls reports name args =
    check_report_arguments (declared_of decls.names) name (report_in (map report_of reports) name)
    (map expression_of args)

-- the first fault of types in the statements, in a book with reports
abbrev pub mistyped_in : Book → List Report → List Statement → TypeFault
mistyped_in book reports statements = mistyped_from 1 (book_of book) (map report_of reports) (statements_of statements)
