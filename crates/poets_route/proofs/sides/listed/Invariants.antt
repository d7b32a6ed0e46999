use Rattle.std.proofs.Common.{◌≡◌, ◌<◌, ◌++◌, length}
use Rattle.poets_way.specs.Trails.{sides_at}
use Rattle.poets_route.proofs.sides.listed.Given as goal

-- the list so far, and then the rest
abbrev pub invariant-loop-second : goal.invariant-loop-second
invariant-loop-second l = record {
  within : l.rest < length l.trails.sides;
  sides : sides_at l.trails l.sides ≡ l.list.items ++ sides_at l.trails l.rest;
}

abbrev pub decreases-loop-second : goal.decreases-loop-second
decreases-loop-second l = l.rest
