-- The contracts of a portfolio.
use Rattle.std.specs.Prelude.{◌≡◌, ℕ, ◌-◌, List, [], ◌∷◌, Option, Some, None, slice_get}
use Rattle.poets_value.specs.declared.value.Name.{Name}
use Rattle.poets_syntax.specs.declared.term.Term.{Term}
use Rattle.poets_cons.specs.declared.node.Node.{Node}
use Rattle.poets_table.specs.TableView.{RowView, number_named}
use Rattle.poets_table.specs.Pieces.{joined}
use Rattle.poets_folio.specs.declared.folio.Part.{Part}

abbrev pub absent_or_later : Name → (number : Option ℕ) → (later : Option Name) → Option Name
absent_or_later x None later = Some x
absent_or_later x (Some n) later = later

-- the first of the names that no row has
abbrev pub absent_from : List (RowView Term (List Node)) → List Name → Option Name
absent_from rows [] = None
absent_from rows (x ∷ names) = absent_or_later x (number_named x rows) (absent_from rows names)

-- the part has the name and the events of the row with the name
pub record IsPart (rows : List (RowView Term (List Node))) (x : Name) (part : Part) : Type 0 where
  pub name : part.name ≡ x
  pub number : ℕ
  pub row : RowView Term (List Node)
  pub found : number_named x rows ≡ Some number
  pub here : slice_get rows (number - 1) ≡ Some row
  pub events : joined part.events.pieces ≡ row.events
