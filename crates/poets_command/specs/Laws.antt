-- What checks of types say by the rules of typing, and the laws of typed commands, as statements.
use Rattle.std.specs.Prelude.{◌≡◌, ◌↔◌, List, Some, length}
use Rattle.poets_value.specs.declared.value.Name.{Name}
use Rattle.poets_value.specs.declared.event.Event.{Event}
use Rattle.poets_expr.specs.Expression.{Expression}
use Rattle.poets_syntax.specs.Applied.{CountsFit}
use Rattle.poets_syntax.specs.Plain.{Book, Template}
use Rattle.poets_syntax.specs.Contract.{Contract}
use Rattle.poets_syntax.specs.TypeOf.{Passes}
use Rattle.poets_syntax.specs.Typing.{IsTypedTemplate}
use Rattle.poets_syntax.specs.WellFormed.{IsWellFormed, IsDeclaredEvent}
use Rattle.poets_report.specs.Plain.{Report}
use Rattle.poets_command.specs.Plain.{Command}
use Rattle.poets_command.specs.Reports.{report_in}
use Rattle.poets_command.specs.TypedStatements.{check_template, check_report, check_command}
use Rattle.poets_command.specs.Typing.{IsTypedReport, IsTypedCommand}

-- a template passes exactly where it is typed by the rules
abbrev pub TemplatesByRules : Type 0
TemplatesByRules =
    (book : Book) (reports : List Name) (t : Template) →
    check_template book reports t ≡ Passes tt ↔ IsTypedTemplate book reports t

-- a report passes exactly where it is typed by the rules
abbrev pub ReportsByRules : Type 0
ReportsByRules =
    (book : Book) (reports : List Name) (q : Report) →
    check_report book reports q ≡ Passes tt ↔ IsTypedReport book reports q

-- a command passes exactly where it is typed by the rules
abbrev pub CommandsByRules : Type 0
CommandsByRules = (book : Book) (reports : List Report) (command : Command) →
    check_command book reports command ≡ Passes tt ↔ IsTypedCommand book reports command

-- a typed registration is of a well-formed contract with the right numbers of arguments
abbrev pub TypedRegistration : Type 0
TypedRegistration = (book : Book) (reports : List Report) (x : Name) (c : Contract) →
    IsTypedCommand book reports (Command.Register x c) → IsWellFormed book.declared c × CountsFit book c

-- a typed transmission is of a declared event
abbrev pub TypedEvent : Type 0
TypedEvent = (book : Book) (reports : List Report) (x : Name) (e : Event) →
    IsTypedCommand book reports (Command.Transmit x e) → IsDeclaredEvent book.declared e

-- there is a report with the name, and it takes so many arguments
abbrev pub IsReportOf : List Report → Name → List Expression → Type 0
IsReportOf reports x args = (q : Report) × (report_in reports x ≡ Some q) × (length args ≡ length q.params)

-- a typed tally, portfolio or watch is of a report that takes so many arguments
pub record TypedReport : Type 0 where
  pub tally : (book : Book) (reports : List Report) (x : Name) (args : List Expression) →
      IsTypedCommand book reports (Command.Tally x args) → IsReportOf reports x args
  pub portfolio : (book : Book) (reports : List Report) (x : Name) (args : List Expression) (over : List Name) →
      IsTypedCommand book reports (Command.Portfolio x args over) → IsReportOf reports x args
  pub watch : (book : Book) (reports : List Report) (x : Name) (args : List Expression) →
      IsTypedCommand book reports (Command.Watch x args) → IsReportOf reports x args
