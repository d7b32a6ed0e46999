use Rattle.std.proofs.Common.{◌<◌, length}
use Rattle.poets_test_ways.proofs.made.long_way.Given as goal

abbrev pub invariant-loop : goal.invariant-loop
invariant-loop l = l.way < length l.trails.ways
