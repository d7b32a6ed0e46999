-- Lists that grow, each item made from those before it.
use Rattle.std.specs.Prelude.{◌≡◌, ℕ, List, [], ◌∷◌, ◌++◌}
use Rattle.std.specs.List.{slice_index_or}

-- the item with a number; past the end the first argument
abbrev pub item_at : {B : Type 0} → B → List B → ℕ → B
item_at none items i = slice_index_or items i none

-- the items with one more for each row, made from those before it
abbrev pub built : {A B : Type 0} → B → ((ℕ → B) → A → B) → List B → List A → List B
built none make items [] = items
built none make items (r ∷ rows) = built none make (items ++ make (item_at none items) r ∷ []) rows

-- rows came at the end
abbrev pub IsLonger : {A : Type 0} → List A → List A → Type 0
IsLonger {A} old new = (more : List A) × (new ≡ old ++ more)
