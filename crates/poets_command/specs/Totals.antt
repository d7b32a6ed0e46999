-- The total of a portfolio's rows.
use Rattle.std.specs.Prelude.{ℤ, pos, ◌+ℤ◌, Option, Some, None, List, fold}
use Rattle.poets_value.specs.declared.value.Name.{Name}
use Rattle.poets_value.specs.declared.value.Ty.{Ty}
use Rattle.poets_value.specs.declared.value.Ty.TheVariants as T
use Rattle.poets_value.specs.declared.value.Value.{Value}
use Rattle.poets_value.specs.declared.value.Value.TheVariants as V
use Rattle.poets_expr.specs.Expression.{Expression}
use Rattle.poets_expr.specs.Val.{whole}
use Rattle.poets_report.specs.Plain.{Report, Answer}

-- the exact sum with one more row; none where a row is undefined or no number
abbrev pub added : Option ℤ → Answer → Option ℤ
added (Some z) (Answer.Single (Some (V.Int n))) = Some (z +ℤ n)
added _ _ = None

-- the sum as a value: undefined where there is none, or where it is no whole number of the language
abbrev pub if_whole : Option ℤ → Option Value
if_whole None = None
if_whole (Some z) = whole z

abbrev pub total_by : Ty → Option Expression → List (Name × Answer) → Option (Option Value)
total_by T.Int None rows = Some (if_whole (fold (λ z row. added z row.1) (Some (pos 0)) rows))
total_by _ _ rows = None

-- the total of a portfolio's rows: there is one exactly for a report of type Int without a key
abbrev pub total_of : Report → List (Name × Answer) → Option (Option Value)
total_of q rows = total_by q.ty q.key rows
