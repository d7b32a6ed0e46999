-- A report has one answer.
use Rattle.std.proofs.Common.{◌≡◌, List, Option, Some, None, sym, ◌∙◌, ap}
use Rattle.poets_value.specs.declared.event.Event.{Event}
use Rattle.poets_value.specs.declared.value.Value.{Value}
use Rattle.poets_expr.specs.Env.{Declared}
use Rattle.poets_expr.specs.Expression.{Expression}
use Rattle.poets_report.specs.Plain.{Report, Answer, Single, Rows}
use Rattle.poets_report.specs.Answers.{IsAnswer_by, OneAnswer}
use Rattle.poets_report.proofs.RisingRows.{rows_one}
use Rattle.poets_report.proofs.FoldsByKey.{by_key}

one_by : (by : Option Expression) (declared : Declared) (q : Report) (args : List (Option Value)) (s : List Event) (a b : Answer) →
    IsAnswer_by by declared q args s a → IsAnswer_by by declared q args s b → a ≡ b
one_by None declared q args s (Single v) (Single w) h k = ap Single (h ∙ sym k)
one_by None declared q args s (Single v) (Rows rs) h k = elim k [ ]
one_by None declared q args s (Rows rs) b h k = elim h [ ]
one_by (Some key) declared q args s (Single v) b h k = elim h [ ]
one_by (Some key) declared q args s (Rows rs) (Single v) h k = elim k [ ]
one_by (Some key) declared q args s (Rows rs) (Rows rs') h k =
    ap Rows (rows_one rs rs' h.rising k.rising (λ x. by_key declared q args key s rs h x ∙ sym (by_key declared q args key s rs' k x)))

pub one_answer : OneAnswer
one_answer declared q args s a b h k = one_by q.key declared q args s a b h k
