-- The sum of a portfolio's rows.
use Rattle.std.specs.Prelude.{◌≡◌, ℤ, ◌+ℤ◌, pos, fold, List, map, Option, Some, option_map}
use Rattle.poets_value.specs.declared.value.Name.{Name}
use Rattle.poets_value.specs.declared.value.Value.{Value}
use Rattle.poets_report.specs.Answers.{answer_of}
use Rattle.poets_report.specs.declared.report.Answer.{Answer}
use Rattle.poets_command.specs.Calls.{folio_row_of}
use Rattle.poets_command.specs.Totals.{added, if_whole}

-- the exact sum of the rows, which is none where a row is undefined or no whole number, or the sum
-- is none of the language
abbrev pub sum_of : List (Name × Answer) → Option Value
sum_of rows = if_whole (fold (λ z row. added z row.1) (Some (pos 0)) (map folio_row_of rows))

-- to each sum the answer adds the number, and leaves it undefined where there is none
abbrev pub Adds : Answer → Option ℤ → Type 0
Adds a number = (z : ℤ) → added (Some z) (answer_of a) ≡ option_map (λ n. z +ℤ n) number
