-- What is put to a text.
use Rattle.std.specs.Prelude.{ℕ, ◌-◌, List, ◌++◌, codes}
use Rattle.std.specs.List.{flat_map, range_with_len}
use Rattle.poets_demo.specs.Text.{numbers_to, sale_lines, sale_name}

-- the lines of a clerk's sales
abbrev pub lines_of_sales : (clerk sales : ℕ) → List ℕ
lines_of_sales clerk sales = flat_map (sale_lines clerk) (numbers_to sales)

-- the name of a clerk's sale behind a comma: `, c1_2`
abbrev pub next_name : (clerk sale : ℕ) → List ℕ
next_name clerk sale = codes ", " ++ sale_name clerk sale

-- the names of a clerk's sales but the first, each behind a comma: `, c1_2, c1_3`
abbrev pub more_names : (clerk sales : ℕ) → List ℕ
more_names clerk sales = flat_map (next_name clerk) (range_with_len 2 (sales - 1))
