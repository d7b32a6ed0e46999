-- Nodes that are added to a table, and what is kept of them.
use Rattle.std.specs.Prelude.{◌≡◌, ℕ, Bool, ◌&&◌, nat_eq, List, [], ◌∷◌, ◌++◌, slice_get, Some}
use Rattle.std.specs.Prelude.{if◌then◌else◌}
use Rattle.poets_cons.specs.declared.classes.Classes.{Classes}
use Rattle.poets_cons.specs.declared.form.Form.{Form}
use Rattle.poets_cons.specs.declared.node.Node.{Node}
use Rattle.poets_cons.specs.Row.{row_of}
use Rattle.poets_cons.specs.Table.{rows_of, contract_of_node, with_row, IsTable, Stands}
use Rattle.poets_cons.specs.Table.{AddsReached}
use Rattle.poets_cons.specs.code.Classes.{AreKnown}
use Rattle.poets_cons.specs.code.Forms.{AreForms}

-- the rows are a table, and what is kept of them beside is right: each row's form, and the classes
-- that are known
abbrev pub AreKept : List Node → List Form → Classes → Type 0
AreKept nodes forms classes = IsTable nodes × AreForms nodes forms × AreKnown nodes classes

-- the row with that number is that of the node, and it was added at the end or was there
pub record IsInserted (old new : List Node) (node : Node) (place : ℕ) (is_new : Bool) : Type 0 where
  pub row : slice_get (rows_of new) place ≡ Some (row_of node)
  pub stands : Stands new place (contract_of_node old node)
  pub reached : AddsReached old new place
  pub nodes : new ≡ (if is_new then old ++ node ∷ [] else old)

-- the row of the node was added at the end, unless it was there
abbrev pub AddsRow : (old new : List Node) → Node → Type 0
AddsRow old new node = rows_of new ≡ with_row (row_of node) (rows_of old)

-- the forms with one more, where that is new
abbrev pub with_form : Bool → Form → List Form → List Form
with_form is_new form forms = if is_new then forms ++ form ∷ [] else forms

-- whether two unequal contracts with these forms may be alike
abbrev pub may_be_alike : Form → Form → Bool
may_be_alike a b = a.parallel && b.parallel && nat_eq a.weight b.weight
