-- What rows count towards the limit.
use Rattle.std.specs.Prelude.{◌≡◌, ◌<◌, ℕ, Bool, ◌||◌, List, map, length, sum_by, All}
use Rattle.std.specs.List.{list_any}
use Rattle.poets_syntax.specs.Book.{book_of}
use Rattle.poets_syntax.specs.Contract.{Contract, Failure}
use Rattle.poets_syntax.specs.Same.{same_contract}
use Rattle.poets_meaning.specs.Spread.{own_count, exposed, body_width}
use Rattle.poets_meaning.specs.Studied.{StudiedBook, marks_of}
use Rattle.poets_cons.specs.declared.node.Node.{Node}
use Rattle.poets_cons.specs.Row.{Row, contract_by}
use Rattle.poets_cons.specs.Table.{rows_of, contract_at}

-- what the contract of a row counts by itself, whatever stands below it
abbrev pub row_count : Row → ℕ
row_count r = own_count (contract_by (λ _. Failure) r)

-- what all rows count so
abbrev pub rows_count : List Node → ℕ
rows_count nodes = sum_by row_count (rows_of nodes)

-- the width of the body of the template that a row applies
abbrev pub body_width_at : StudiedBook → List Node → ℕ → ℕ
body_width_at s nodes place = body_width (book_of s.book) (marks_of s) (contract_at nodes place)

-- the widths of the bodies of the templates that some rows apply
abbrev pub body_widths_at : StudiedBook → List Node → List ℕ → ℕ
body_widths_at s nodes places = sum_by (body_width_at s nodes) places

-- whether a row of some stands for the contract
abbrev pub stands_among : List Node → List ℕ → Contract → Bool
stands_among nodes places c = list_any (same_contract c) (map (contract_at nodes) places)

-- the rows of the applications in unguarded positions of a row were added to some rows of the table
pub record AddsExposed (s : StudiedBook) (nodes : List Node) (place : ℕ) (old new : List ℕ) : Type 0 where
  pub within : All (λ k. k < length nodes) old → All (λ k. k < length nodes) new
  pub among : (c : Contract) → stands_among nodes new c ≡
      (stands_among nodes old c || list_any (same_contract c) (exposed (marks_of s) (contract_at nodes place)))
