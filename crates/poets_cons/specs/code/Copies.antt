-- Rows that are copied out of a table.
use Rattle.std.specs.Prelude.{◌≡◌, ◌<◌, ◌≤◌, ◌+◌, ℕ, List, length, slice_get, Option, Some}
use Rattle.std.specs.declared.alloc.Global.{Global}
use Rattle.std.specs.declared.vec.Vec.{Vec}
use Rattle.poets_cons.specs.declared.node.Node.{Node}
use Rattle.poets_cons.specs.Notes.{noted}
use Rattle.poets_cons.specs.Row.{Row, row_of, contract_by, IsPart, AreBelow}
use Rattle.poets_cons.specs.Table.{rows_of, contract_at, IsTable, Reached, Stands, Extends}
use Rattle.poets_cons.specs.Table.{AddsReached, AddsReachedBoth}

-- the rows so far: each row that is noted for another stands for its contract, and each is noted
-- for some row
pub record AreCopies (from into : List Node) (copies : ℕ → Option ℕ) : Type 0 where
  pub table : IsTable into
  pub stand : (k p : ℕ) → copies k ≡ Some p → Stands into p (contract_at from k)
  pub noted : (p : ℕ) → p < length into → (k : ℕ) × (k < length from) × (copies k ≡ Some p)

-- one row more at the end
pub record IsAppended (old new : List Node) (r : Row) (place : ℕ) : Type 0 where
  pub grows : Extends old new
  pub table : IsTable new
  pub stands : Stands new place (contract_by (contract_at old) r)
  pub row : slice_get (rows_of new) place ≡ Some r
  pub last : place ≡ length old
  pub longer : length new ≡ length old + 1

-- the row was copied with all that it reaches, and nothing was noted for a later one
pub record IsCopied (from old new : List Node) (before after : ℕ → Option ℕ) (place copy : ℕ) : Type 0 where
  pub grows : Extends old new
  pub copies : AreCopies from new after
  pub stands : Stands new copy (contract_at from place)
  pub reached : AddsReached old new copy
  pub later : (k : ℕ) → place < k → after k ≡ before k

-- so it was with two rows
pub record AreBothCopied (from old new : List Node) (before after : ℕ → Option ℕ) (a b first second : ℕ) : Type 0 where
  pub grows : Extends old new
  pub copies : AreCopies from new after
  pub first_stands : Stands new first (contract_at from a)
  pub second_stands : Stands new second (contract_at from b)
  pub reached : AddsReachedBoth old new first second
  pub later : (k : ℕ) → a < k → b < k → after k ≡ before k

-- and with the parts of a row, of which this row is the copy
pub record ArePartsCopied (from old new : List Node) (before after : ℕ → Option ℕ) (place : ℕ) (r : Row) : Type 0 where
  pub grows : Extends old new
  pub copies : AreCopies from new after
  pub below : AreBelow (length new) r
  pub contract : contract_by (contract_at new) r ≡ contract_at from place
  pub reached : (k : ℕ) → length old ≤ k → k < length new → (a : ℕ) × IsPart r a × Reached (rows_of new) a k
  pub later : (k : ℕ) → place ≤ k → after k ≡ before k

-- for each of some rows, which one is noted for it
abbrev pub Notes : Type 0
Notes = List (Option ℕ)

-- the row was copied into the table with all that it reaches, and its copy is noted
abbrev pub CopiesRow : List Node → (old new : Vec Node Global) → (before after : Notes) → (place copy : ℕ) → Type 0
CopiesRow from old new before after place copy =
    IsCopied from old.items new.items (noted before) (noted after) place copy

-- the parts of the row were copied into the table and noted, and the node is that of the row with
-- the copies as its parts
abbrev pub CopiesParts : List Node → (old new : Vec Node Global) → (before after : Notes) → ℕ → Node → Type 0
CopiesParts from old new before after place node =
    ArePartsCopied from old.items new.items (noted before) (noted after) place (row_of node)

-- two rows were copied into the table with all that they reach, and these two are their copies
abbrev pub CopiesBoth : List Node → (old new : Vec Node Global) → (before after : Notes) → (a b : ℕ) → ℕ × ℕ → Type 0
CopiesBoth from old new before after a b p =
    AreBothCopied from old.items new.items (noted before) (noted after) a b p.0 p.1
