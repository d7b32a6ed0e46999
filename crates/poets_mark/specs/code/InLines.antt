-- Places in lines.
use Rattle.std.specs.Prelude.{ℕ, ◌≤◌, List, length}
use Rattle.poets_mark.specs.declared.spots.Spot.{Spot}

-- the place stands in its line, and the line in the text
abbrev pub LiesIn : List ℕ → Spot → Type 0
LiesIn text spot = (spot.begin ≤ spot.place) × (spot.place ≤ spot.end) × (spot.end ≤ length text)
