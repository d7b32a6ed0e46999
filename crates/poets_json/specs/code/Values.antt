-- Values of JSON for what the code has.
use Rattle.std.specs.Prelude.{◌≡◌, ℕ, List, [], ◌∷◌, ◌++◌, map}
use Rattle.std.specs.List.{flat_map}
use Rattle.serde_json.specs.Data.{Data}
use Rattle.serde_json.specs.View.{view}
use Rattle.serde_json.specs.Written.{compact_text}
use Rattle.serde_json.specs.declared.value.Value.{Value}

-- the value is this data
abbrev pub Is : Data → Value → Type 0
Is d value = view value ≡ d

-- values of items, each with the data of its item
abbrev pub AreOf : {A : Type 0} → (A → Data) → List A → List Value → Type 0
AreOf data_of xs values = map view values ≡ map data_of xs

-- the compact text of each item after a comma (44)
abbrev pub behind_commas : {A : Type 0} → (A → Data) → List A → List ℕ
behind_commas data_of xs = flat_map (λ x. 44 ∷ compact_text (data_of x)) xs

-- the compact text of each item, with commas between them
abbrev pub list_text : {A : Type 0} → (A → Data) → List A → List ℕ
list_text data_of [] = []
list_text data_of (x ∷ xs) = compact_text (data_of x) ++ behind_commas data_of xs
