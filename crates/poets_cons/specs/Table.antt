-- What a table of rows stands for.
use Rattle.std.specs.Prelude.{◌≡◌, ◌⊎◌, ℕ, ◌-◌, ◌<◌, ◌≤◌, List, [], ◌∷◌, ◌++◌, map, length}
use Rattle.std.specs.Prelude.{slice_get, Some}
use Rattle.std.specs.Prelude.{if◌then◌else◌}
use Rattle.std.specs.List.{IsDistinct, list_any, slice_index_or}
use Rattle.poets_syntax.specs.Contract.{Contract, Failure}
use Rattle.poets_calculus.specs.Alike.{Alike}
use Rattle.poets_cons.specs.declared.node.Node.{Node}
use Rattle.poets_cons.specs.Row.{Row, row_of, contract_by, IsPart, AreBelow}
use Rattle.poets_cons.specs.Same.{same_row}

-- the contract with that number; `Failure` past the end
abbrev pub nth : List Contract → ℕ → Contract
nth cs i = slice_index_or cs i Failure

-- the contracts of further rows, each from those before it
abbrev pub grown : List Contract → List Row → List Contract
grown cs [] = cs
grown cs (r ∷ rows) = grown (cs ++ contract_by (nth cs) r ∷ []) rows

-- the rows of a table of nodes
abbrev pub rows_of : List Node → List Row
rows_of nodes = map row_of nodes

-- the contracts of the rows of a table of nodes
abbrev pub contracts_of : List Node → List Contract
contracts_of nodes = grown [] (rows_of nodes)

-- the contract of the row with a number
abbrev pub contract_at : List Node → ℕ → Contract
contract_at nodes i = nth (contracts_of nodes) i

-- the contract of a node, from those that a table has for its parts
abbrev pub contract_of_node : List Node → Node → Contract
contract_of_node nodes node = contract_by (contract_at nodes) (row_of node)

-- each row names earlier ones alone
abbrev pub AreEarlier : List Row → Type 0
AreEarlier rows = (i : ℕ) (r : Row) → slice_get rows i ≡ Some r → AreBelow i r

-- no two rows are equal
abbrev pub AreDistinct : List Row → Type 0
AreDistinct rows = IsDistinct same_row rows

-- the rows with one more at the end, unless it is there
abbrev pub with_row : Row → List Row → List Row
with_row r rows = if list_any (same_row r) rows then rows else rows ++ r ∷ []

-- a row is reached from the root through parts
pub data Reached (rows : List Row) (root : ℕ) : ℕ → Type 0 where
  Root : Reached rows root root
  Part : {i k : ℕ} {r : Row} → Reached rows root i → slice_get rows i ≡ Some r → IsPart r k → Reached rows root k

-- each row names earlier ones alone, and no two are equal
pub record IsTable (nodes : List Node) : Type 0 where
  pub earlier : AreEarlier (rows_of nodes)
  pub distinct : AreDistinct (rows_of nodes)

-- the table of one contract: there is a last row, from which each row is reached
pub record IsRooted (nodes : List Node) : Type 0 where
  pub some : 0 < length nodes
  pub reached : (k : ℕ) → k < length nodes → Reached (rows_of nodes) (length nodes - 1) k

-- the contract of the last row of a table, the root
abbrev pub contract_of_rows : List Node → Contract
contract_of_rows nodes = contract_at nodes (length nodes - 1)

-- the row with that number stands for the contract
pub record Stands (nodes : List Node) (place : ℕ) (c : Contract) : Type 0 where
  pub within : place < length nodes
  pub contract : contract_at nodes place ≡ c

-- the contracts of two rows are alike
abbrev pub AreAlikeAt : List Node → (a b : ℕ) → Type 0
AreAlikeAt nodes a b = Alike (contract_at nodes a) (contract_at nodes b)

-- rows were added at the end
abbrev pub Extends : List Node → List Node → Type 0
Extends old new = (more : List Node) × (new ≡ old ++ more)

-- each new row is reached from the root
abbrev pub AddsReached : List Node → List Node → ℕ → Type 0
AddsReached old new root = (k : ℕ) → length old ≤ k → k < length new → Reached (rows_of new) root k

-- each new row is reached from one of two
abbrev pub AddsReachedBoth : List Node → List Node → ℕ → ℕ → Type 0
AddsReachedBoth old new a b =
    (k : ℕ) → length old ≤ k → k < length new → Reached (rows_of new) a k ⊎ Reached (rows_of new) b k
