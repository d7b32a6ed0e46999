-- Ways of parallel parts that are grouped otherwise.
use Rattle.std.specs.Prelude.{◌≡◌, ◌+◌, ◌<◌, ℕ, Bool, List, length}
use Rattle.poets_value.specs.declared.event.Event.{Event}
use Rattle.poets_expr.specs.Env.{Env}
use Rattle.poets_syntax.specs.Contract.{Contract, Par}
use Rattle.poets_syntax.specs.Plain.{Book}
use Rattle.poets_norm.specs.code.Grouping.{beside_parts}
use Rattle.poets_way.specs.Way.{Way}
use Rattle.poets_way.specs.Way as W
use Rattle.poets_way.specs.Ways.{Ways}
use Rattle.poets_way.specs.Trails.{TrailsView, sides_at, seconds}
use Rattle.poets_route.specs.code.Making.{Grew}
use Rattle.poets_route.specs.code.Sides.{inner, outer}

-- a way of a contract with the parts of another joined to it is one of both side by side
abbrev pub Takes : (second : Contract) → (from to : Way) → Type 0
Takes c v w = (book : Book) (env : Env) (x : Contract) (s : List Event) →
    Ways book env (beside_parts x c) s v → Ways book env (Par x c) s w

-- the second sides have one side for each event that is not the last contract's
abbrev pub AreSidesOfFirst : (last second : List Bool) → Type 0
AreSidesOfFirst last second = length second + seconds last ≡ length last

-- of three contracts, grouped to the left by the two lists of sides, the way grouped to the right
abbrev pub IsGroupedRight : (last second : List Bool) → (a b c : Way) → (made : Way) → Type 0
IsGroupedRight last second a b c made =
    AreSidesOfFirst last second → made ≡ W.Both (outer last second) a (W.Both (inner last second) b c)

-- the table only grew, and the two numbers are those of the sides grouped to the right
pub record Regroups (old new : TrailsView) (last second first others : ℕ) : Type 0 where
  pub grew : Grew old new
  pub first_within : first < length new.sides
  pub others_within : others < length new.sides
  pub sides :
      AreSidesOfFirst (sides_at old last) (sides_at old second) →
      (sides_at new first ≡ outer (sides_at old last) (sides_at old second))
      × (sides_at new others ≡ inner (sides_at old last) (sides_at old second))
