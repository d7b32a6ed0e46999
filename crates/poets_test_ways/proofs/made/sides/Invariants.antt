use Rattle.std.proofs.Common.{◌≡◌, ◌<◌, length}
use Rattle.poets_test_ways.proofs.made.sides.Given as goal

abbrev pub invariant-loop-letter : goal.invariant-loop-letter
invariant-loop-letter l = record {
  known : l.sides < length l.trails.sides;
  ways : l.trails.ways ≡ l.fn.trails.ways;
}
