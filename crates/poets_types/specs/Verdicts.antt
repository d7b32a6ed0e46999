-- What checks of books, contracts and commands promise.
use Rattle.std.specs.Prelude.{◌≡◌, List, [], map}
use Rattle.poets_syntax.specs.declared.term.Book.{Book}
use Rattle.poets_syntax.specs.declared.term.Term.{Term}
use Rattle.poets_syntax.specs.Book.{book_of}
use Rattle.poets_syntax.specs.Checked.{IsCheckedBook}
use Rattle.poets_syntax.specs.Contract.{contract_of}
use Rattle.poets_syntax.specs.Demands.{Demand, contract_demands}
use Rattle.poets_syntax.specs.Typing.{IsTyped}
use Rattle.poets_report.specs.declared.report.Report.{Report}
use Rattle.poets_report.specs.Reports.{report_of}
use Rattle.poets_command.specs.declared.call.Command.{Command}
use Rattle.poets_command.specs.Calls.{command_of}
use Rattle.poets_command.specs.Declarations.{reports_of}
use Rattle.poets_command.specs.Said.{Statement}
use Rattle.poets_command.specs.StatementDemands.{command_demands}
use Rattle.poets_command.specs.TypedStatements.{report_names}
use Rattle.poets_command.specs.Typing.{IsTypedCommand}
use Rattle.poets_types.specs.declared.book.Checked.{Checked}
use Rattle.poets_types.specs.declared.cause.TypeCause.{TypeCause}
use Rattle.poets_types.specs.Faults.{IsFaultOf}

-- the reports are those that the statements declare
abbrev pub HasReportsOf : List Statement → Checked → Type 0
HasReportsOf statements checked = map report_of checked.reports.items ≡ reports_of statements

-- the book is a checked one beside the names of its reports
abbrev pub IsCheckedWithReports : Checked → Type 0
IsCheckedWithReports checked = IsCheckedBook (book_of checked.book) (report_names (map report_of checked.reports.items))

-- the contract is typed in the book beside the reports, with no names in scope
abbrev pub TermIsTyped : Book → List Report → Term → Type 0
TermIsTyped book reports term = IsTyped (book_of book) (report_names (map report_of reports)) [] (contract_of term)

-- the cause is that of the contract's first fault in the book beside the reports, or that memory
-- ran out
abbrev pub IsFaultOfTerm : Book → List Report → Term → TypeCause → Type 0
IsFaultOfTerm book reports term =
    IsFaultOf (book_of book).declared
    (contract_demands (book_of book) (report_names (map report_of reports)) [] (contract_of term))

-- the command is typed in the book with the reports
abbrev pub CommandIsTyped : Book → List Report → Command → Type 0
CommandIsTyped book reports command = IsTypedCommand (book_of book) (map report_of reports) (command_of command)

-- what typing demands of the command in the book with the reports
abbrev pub demands_on : Book → List Report → Command → List Demand
demands_on book reports command = command_demands (book_of book) (map report_of reports) (command_of command)

-- the cause is that of the command's first fault in the book with the reports, or that memory ran
-- out
abbrev pub IsFaultOfCommand : Book → List Report → Command → TypeCause → Type 0
IsFaultOfCommand book reports command = IsFaultOf (book_of book).declared (demands_on book reports command)
