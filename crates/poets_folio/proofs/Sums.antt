-- Sums of rows.
use Rattle.std.proofs.Common.{◌≡◌, ℕ, zero, suc, ◌<◌, List, [], ◌∷◌, Option, None, map, fold, take, length, slice_index_or, refl, sym, ◌∙◌, ap, arith}
use Rattle.std.specs.Prelude.{ℤ}
use Rattle.poets_value.specs.declared.value.Name.{Name}
use Rattle.poets_report.specs.Answers.{answer_of}
use Rattle.poets_report.specs.declared.report.Answer.{Answer}
use Rattle.poets_command.specs.Calls.{folio_row_of}
use Rattle.poets_command.specs.Totals.{added}

abbrev pub Rows : Type 0
Rows = List (Name × Answer)

abbrev pub sum_from : Option ℤ → Rows → Option ℤ
sum_from sum rows = fold (λ z row. added z row.1) sum (map folio_row_of rows)

sum_from_none : (rows : Rows) → sum_from None rows ≡ None
sum_from_none [] = refl
sum_from_none (r ∷ rows) = sum_from_none rows

-- past a row that has no number there is no sum
pub sum_stops : (acc sum : Option ℤ) (i : ℕ) (rows : Rows) (row : Name × Answer) → sum_from acc (take i rows) ≡ sum → i < length rows → row ≡ slice_index_or rows i row →
    added sum (answer_of row.1) ≡ None → sum_from acc rows ≡ None
sum_stops acc sum i [] row e lt at n = absurd (omega (arith, lt))
sum_stops acc sum zero (r ∷ rows) row e lt at n =
    ap (λ z. sum_from z rows) (ap (λ z. added z (answer_of r.1)) e ∙ ap (λ x. added sum (answer_of x.1)) (sym at) ∙ n) ∙ sum_from_none rows
sum_stops acc sum (suc i) (r ∷ rows) row e lt at n = sum_stops (added acc (answer_of r.1)) sum i rows row e (omega (arith, lt)) at n

-- the sum with one row more
pub sum_more : (acc sum : Option ℤ) (i : ℕ) (rows : Rows) (row : Name × Answer) → sum_from acc (take i rows) ≡ sum → i < length rows → row ≡ slice_index_or rows i row →
    sum_from acc (take (suc i) rows) ≡ added sum (answer_of row.1)
sum_more acc sum i [] row e lt at = absurd (omega (arith, lt))
sum_more acc sum zero (r ∷ rows) row e lt at = ap (λ z. added z (answer_of r.1)) e ∙ ap (λ x. added sum (answer_of x.1)) (sym at)
sum_more acc sum (suc i) (r ∷ rows) row e lt at = sum_more (added acc (answer_of r.1)) sum i rows row e (omega (arith, lt)) at
