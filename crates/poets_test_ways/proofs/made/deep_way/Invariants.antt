use Rattle.std.proofs.Common.{◌<◌, length}
use Rattle.poets_test_ways.proofs.made.deep_way.Given as goal

abbrev pub invariant-loop : goal.invariant-loop
invariant-loop l = record {
  way : l.way < length l.trails.ways;
  done : l.done < length l.trails.ways;
  none : l.none < length l.trails.sides;
}
