-- Items and lists by their places, as clerks work at them.
use Rattle.std.specs.Prelude.{◌≡◌, ℕ, ◌<◌, ◌≤◌, List, [], length, slice_index_or}
use Rattle.poets_value.specs.Listed.{Listed}

-- a relation of each place of a list and the item there
abbrev pub AtEach : {D : Type 0} → (ℕ → D → Type 0) → List D → Type 0
AtEach {D} P items = (k : ℕ) (d : D) → k < length items → P k (slice_index_or items k d)

-- a relation of each place of a list, the item there, and that of another list
abbrev pub AtEachOfTwo : {D : Type 0} → (ℕ → D → D → Type 0) → List D → List D → Type 0
AtEachOfTwo {D} P items others =
    (k : ℕ) (d : D) → k < length items → P k (slice_index_or items k d) (slice_index_or others k d)

-- two empty lists with room for so many items
abbrev pub AreEmptyWithRoom : {X Y : Type 0} → ℕ → Listed X → Listed Y → Type 0
AreEmptyWithRoom count xs ys = (xs.items ≡ []) × (count ≤ xs.room) × (ys.items ≡ []) × (count ≤ ys.room)
