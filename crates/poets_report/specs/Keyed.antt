-- Rows that are kept by their keys. This file only ties the code to `IsAnswer`.
use Rattle.std.specs.Prelude.{◌≡◌, IsTrue, List, [], ◌∷◌, Option, Some, None, if◌then◌else◌}
use Rattle.std.specs.List.{list_any}
use Rattle.std.specs.Map.{lookup}
use Rattle.std.specs.BTreeMap.{is_at}
use Rattle.poets_value.specs.declared.value.Value.{Value}
use Rattle.poets_value.specs.Order.{value_cmp}
use Rattle.poets_report.specs.Keys.{Key, same_key}
use Rattle.poets_report.specs.Plain.{KeyRow}
use Rattle.poets_report.specs.Answers.{Rising}

-- what a key has: the value of its row, or no row
abbrev pub Cell : Type 0
Cell = Option (Option Value)

-- what a key has among rows
abbrev pub row_at : Key → List KeyRow → Cell
row_at k rows = lookup (same_key k) rows

-- the row of a key, if it has one, before other rows
abbrev pub row_before : Key → Cell → List KeyRow → List KeyRow
row_before k None rows = rows
row_before k (Some v) rows = (k, v) ∷ rows

-- the rows of the keys that are values, and then that of the undefined key
abbrev pub rows_of : List (Value × Cell) → Cell → List KeyRow
rows_of [] undefined = row_before None undefined []
rows_of (c ∷ cells) undefined = row_before (Some c.0) c.1 (rows_of cells undefined)

-- rows in the order of their keys, and the values for whose rows there is room
pub record KeyedView : Type 0 where
  pub rows : List KeyRow
  pub keys : List Value

-- there is room for the row of a key; for that of the undefined key there always is
abbrev pub HasRoom : Key → List Value → Type 0
HasRoom None keys = Unit {0}
HasRoom (Some v) keys = IsTrue (list_any (is_at (value_cmp v)) keys)

-- the new rows are the old ones, except that one key has this row, or none
pub record Sets (key : Key) (cell : Cell) (old new : List KeyRow) : Type 0 where
  pub rising : Rising new
  pub each : (k : Key) → row_at k new ≡ (if same_key k key then cell else row_at k old)
