-- Sides of three contracts, grouped otherwise.
use Rattle.std.specs.Prelude.{Bool, true, false, List, [], ◌∷◌}

-- of three contracts, grouped to the left: whose each event is, of the first or of the other two
abbrev pub outer : (last second : List Bool) → List Bool
outer (true ∷ last) second = true ∷ outer last second
outer (false ∷ last) (side ∷ second) = side ∷ outer last second
outer _ _ = []

-- and whose each event of the other two is
abbrev pub inner : (last second : List Bool) → List Bool
inner (true ∷ last) second = true ∷ inner last second
inner (false ∷ last) (true ∷ second) = false ∷ inner last second
inner (false ∷ last) (false ∷ second) = inner last second
inner _ _ = []
