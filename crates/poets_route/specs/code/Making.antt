-- Ways that are made in a table.
use Rattle.std.specs.Prelude.{◌≡◌, ◌<◌, ℕ, Bool, List, ◌++◌, length, Result, IfOk}
use Rattle.poets_way.specs.Way.{Way}
use Rattle.poets_way.specs.Trails.{TrailsView, way_at, sides_at}

-- ways and lists of sides were added at the ends
pub record Grew (old new : TrailsView) : Type 0 where
  pub ways : (more : List Way) × (new.ways ≡ old.ways ++ more)
  pub sides : (more : List (List Bool)) × (new.sides ≡ old.sides ++ more)

-- the table only grew, and has such a way at the number
pub record Makes (old new : TrailsView) (number : ℕ) (Is : Way → Type 0) : Type 0 where
  pub grew : Grew old new
  pub within : number < length new.ways
  pub made : Is (way_at new number)

-- the same of a list of sides
pub record MakesSides (old new : TrailsView) (number : ℕ) (Are : List Bool → Type 0) : Type 0 where
  pub grew : Grew old new
  pub within : number < length new.sides
  pub made : Are (sides_at new number)

-- where there is a result, it is the number of such a way, and the table only grew
abbrev pub Gives : {E : Type 0} → (old new : TrailsView) → Result ℕ E → (Is : Way → Type 0) → Type 0
Gives old new result Is = IfOk result (λ r. Makes old new r Is)

-- the same of a list of sides
abbrev pub GivesSides : {E : Type 0} → (old new : TrailsView) → Result ℕ E → (Are : List Bool → Type 0) → Type 0
GivesSides old new result Are = IfOk result (λ r. MakesSides old new r Are)

-- where there is a result, it is the numbers of two such ways, and the table only grew
abbrev pub GivesTwo : {E : Type 0} → (old new : TrailsView) → Result (ℕ × ℕ) E → (Is IsToo : Way → Type 0) → Type 0
GivesTwo old new result Is IsToo = IfOk result (λ r. Makes old new r.0 Is × Makes old new r.1 IsToo)
