-- The types of what a typed report answers.
use Rattle.std.specs.Prelude.{List, [], All, map}
use Rattle.poets_value.specs.declared.event.Event.{Event}
use Rattle.poets_value.specs.declared.value.Name.{Name}
use Rattle.poets_value.specs.declared.value.Ty.{Ty}
use Rattle.poets_expr.specs.Expression.{Expression}
use Rattle.poets_expr.specs.Val.{val}
use Rattle.poets_syntax.specs.OfType.{IsOfType}
use Rattle.poets_syntax.specs.Plain.{Book}
use Rattle.poets_syntax.specs.Typing.{Fit}
use Rattle.poets_syntax.specs.WellFormed.{IsDeclaredEvent}
use Rattle.poets_report.specs.Answers.{IsAnswer}
use Rattle.poets_report.specs.Plain.{Answer, Single, Rows, Report}
use Rattle.poets_command.specs.Typing.{IsTypedReport}

-- each key is undefined or of the one type, and each value undefined or of the other
abbrev pub IsAnswerOfTypes : (key value : Ty) → Answer → Type 0
IsAnswerOfTypes key value (Single v) = IsOfType v value
IsAnswerOfTypes key value (Rows rows) = All (λ r. IsOfType r.0 key × IsOfType r.1 value) rows

-- all keys of a typed report have one type, and its values the report's type, whatever its typed
-- arguments and the declared events
abbrev pub AnswersHaveTypes : Type 0
AnswersHaveTypes = (book : Book) (reports : List Name) (q : Report) → IsTypedReport book reports q →
    (key : Ty) × ((args : List Expression) (events : List Event) (a : Answer) →
    Fit book.declared [] q.params args → All (IsDeclaredEvent book.declared) events →
    IsAnswer book.declared q (map (val book.declared []) args) events a → IsAnswerOfTypes key q.ty a)
