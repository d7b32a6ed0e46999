-- What is evaluated of a report at its start and at an event.
use Rattle.std.specs.Prelude.{◌≡◌, List, [], ◌∷◌, Option, Some}
use Rattle.poets_value.specs.declared.event.Event.{Event}
use Rattle.poets_value.specs.declared.value.Value.{Value}
use Rattle.poets_value.specs.declared.value.Value.TheVariants as V
use Rattle.poets_expr.specs.declared.env.Decls.{Decls}
use Rattle.poets_expr.specs.declared.expr.Expr.{Expr}
use Rattle.poets_expr.specs.Env.{Declared, Env, declared_of}
use Rattle.poets_expr.specs.Expression.{Expression, expression_of}
use Rattle.poets_expr.specs.Val.{val}
use Rattle.poets_syntax.specs.declared.term.Binders.{Binders}
use Rattle.poets_report.specs.Answers.{IsAnswer}
use Rattle.poets_report.specs.Folds.{answer_in}
use Rattle.poets_report.specs.Reports.{given, key_on, report_of, stage, start}
use Rattle.poets_report.specs.declared.folds.Running.{Running}
use Rattle.poets_report.specs.declared.report.Report.{Report}

-- the value of an expression under the declared names and the pairs
abbrev pub evaluated : Decls → Env → Expr → Option Value
evaluated decls env e = val (declared_of decls.names) env (expression_of e)

-- the names of the parts of an event with these parts, in the order in which they are bound
abbrev pub parts_of : Binders → Event → Env
parts_of b e =
    (b.sender, Some (V.Agent e.sender)) ∷ (b.receiver, Some (V.Agent e.receiver))
    ∷ (b.what, Some (V.Resource e.what)) ∷ (b.day, Some (V.Day e.day)) ∷ []

-- under whatever declared names and arguments this is the report's start, this is its answer over
-- no event
abbrev pub IsFirstAnswer : Report → Option Value → Running → Type 0
IsFirstAnswer report began running = (declared : Declared) (args : List (Option Value)) →
    began ≡ start declared (report_of report) args → IsAnswer declared (report_of report) args [] (answer_in running)

-- where these are the parameters with any arguments, and the report has a key, this is the key on
-- the event
abbrev pub IsKeyOn : Decls → Report → Env → Event → Option Value → Type 0
IsKeyOn decls report env e found =
    (args : List (Option Value)) (key : Expression) → env ≡ given (report_of report) args →
    (report_of report).key ≡ Some key → found ≡ key_on (declared_of decls.names) (report_of report) args key e

-- where these are the parameters with any arguments, this is what is carried past the event
abbrev pub IsCarriedPast : Decls → Report → Env → Option Value → Event → Option Value → Type 0
IsCarriedPast decls report env carried e found = (args : List (Option Value)) → env ≡ given (report_of report) args →
    found ≡ stage (declared_of decls.names) (report_of report) args carried e
