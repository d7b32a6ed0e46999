use Rattle.std.proofs.Common.{◌≡◌, ◌≤◌, ◌++◌, [], length, get_or}
use Rattle.poets_way.specs.Trails.{sides_of}
use Rattle.poets_way.proofs.sides.sides_from.Given as goal

abbrev pub invariant-loop-rest : goal.invariant-loop-rest
invariant-loop-rest l = record {
  within : l.rest ≤ length l.rows;
  told : l.sides.items ++ get_or (sides_of l.rows) l.rest [] ≡ get_or (sides_of l.rows) l.fn.number [];
}

abbrev pub decreases-loop-rest : goal.decreases-loop-rest
decreases-loop-rest l = l.rest
