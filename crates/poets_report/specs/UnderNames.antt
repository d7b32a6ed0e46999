-- What is said of the reports and the folds of the code under the declared names.
use Rattle.std.specs.Prelude.{List, [], map, Option}
use Rattle.poets_value.specs.declared.event.Event.{Event}
use Rattle.poets_value.specs.declared.value.Value.{Value}
use Rattle.poets_expr.specs.declared.env.Decls.{Decls}
use Rattle.poets_expr.specs.declared.expr.Expr.{Expr}
use Rattle.poets_expr.specs.Env.{declared_of}
use Rattle.poets_expr.specs.Expression.{expression_of}
use Rattle.poets_expr.specs.Val.{val}
use Rattle.poets_report.specs.Answers.{IsAnswer, answer_of}
use Rattle.poets_report.specs.Folds.{Brings, FoldView, GoesOn, StandsFor}
use Rattle.poets_report.specs.Reports.{report_of}
use Rattle.poets_report.specs.declared.folds.Change.{Change}
use Rattle.poets_report.specs.declared.report.Answer.{Answer}
use Rattle.poets_report.specs.declared.report.Report.{Report}

-- the values of arguments under the declared names alone
abbrev pub evaluated_arguments : Decls → List Expr → List (Option Value)
evaluated_arguments decls args = map (val (declared_of decls.names) []) (map expression_of args)

-- the fold of the report under the declared names and these arguments stands for these events
abbrev pub StandsForUnder : Decls → Report → List (Option Value) → List Event → FoldView → Type 0
StandsForUnder decls report args events fold = StandsFor (declared_of decls.names) (report_of report) args events fold

-- whatever events the old fold of the report stood for under the declared names, the new one stands
-- for these and then `more`
abbrev pub GoesOnUnder : Decls → Report → List Event → FoldView → FoldView → Type 0
GoesOnUnder decls report more old new = GoesOn (declared_of decls.names) (report_of report) more old new

-- the change is what an event brings to a fold of the report under the declared names
abbrev pub BringsUnder : Decls → Report → Event → FoldView → Change → Type 0
BringsUnder decls report e fold c = Brings (declared_of decls.names) (report_of report) e fold c

-- this is the report's answer over the events, under the declared names and these arguments
abbrev pub IsAnswerUnder : Decls → Report → List (Option Value) → List Event → Answer → Type 0
IsAnswerUnder decls report args events a =
    IsAnswer (declared_of decls.names) (report_of report) args events (answer_of a)
