-- What is left of a portfolio once its turn is over.
use Rattle.std.specs.Prelude.{◌≡◌, List, [], Some, None, map}
use Rattle.std.specs.Arc.{arc_value}
use Rattle.std.specs.List.{AllZip}
use Rattle.poets_value.specs.declared.value.Name.{Name}
use Rattle.poets_expr.specs.Expression.{Expression}
use Rattle.poets_expr.specs.Env.{declared_of}
use Rattle.poets_expr.specs.Val.{val}
use Rattle.poets_syntax.specs.Plain.{Book}
use Rattle.poets_report.specs.Plain.{Report}
use Rattle.poets_report.specs.Reports.{report_of}
use Rattle.poets_table.specs.Pieces.{joined}
use Rattle.poets_folio.specs.declared.folio.Part.{Part}
use Rattle.poets_command.specs.Plain.{Entry, Command}
use Rattle.poets_command.specs.Calls.{Call, calls_of, reply_of}
use Rattle.poets_command.specs.Reports.{report_in}
use Rattle.poets_history.specs.Histories.{IsLegal, AnswersIn}
use Rattle.poets_history.specs.Ledger.{Ledger, ledger_of, first_absent, number_of, trace}
use Rattle.poets_engine.specs.declared.kept.FolioWork.{FolioWork}
use Rattle.poets_engine.specs.declared.kept.Body.{Body}
use Rattle.poets_engine.specs.declared.kept.Body.TheVariants.{Done, Folio}

-- the part has the name and the recorded events of the contract
abbrev pub IsPartIn : Ledger → Name → Part → Type 0
IsPartIn l x part = (part.name ≡ x) × (joined part.events.pieces ≡ trace l (number_of l x))

-- all listed contracts are there after the history of a ledger, and the work holds the declared
-- names, the report with the name, the values of the arguments, and the recorded events of each
-- listed contract in order
pub record HoldsPortfolio
    (book : Book) (reports : List Report) (l : Ledger) (x : Name) (args : List Expression) (over : List Name)
    (work : FolioWork) : Type 0 where
  pub there : first_absent l over ≡ None
  pub decls : declared_of (arc_value work.decls).names ≡ book.declared
  pub report : report_in reports x ≡ Some (report_of (arc_value work.report))
  pub values : work.args.items ≡ map (val book.declared []) args
  pub parts : AllZip (IsPartIn l) over work.parts.items

-- the command is a portfolio, and the work is the one after the legal history of those calls
pub record OwesPortfolio
    (book : Book) (reports : List Report) (calls : List Call) (command : Command) (work : FolioWork) : Type 0 where
  pub history : List Entry
  pub legal : IsLegal book reports history
  pub same : calls_of history ≡ calls
  pub report : Name
  pub args : List Expression
  pub over : List Name
  pub asked : command ≡ Command.Portfolio report args over
  pub holds : HoldsPortfolio book reports (ledger_of history) report args over work

-- the right reply to the command after those calls is made, or is what the work makes
abbrev pub OwesReply : Book → List Report → List Call → Command → Body → Type 0
OwesReply book reports calls command (Done reply) = AnswersIn book reports calls command (reply_of reply)
OwesReply book reports calls command (Folio work) = OwesPortfolio book reports calls command work
