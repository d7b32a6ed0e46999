use Rattle.std.proofs.Common.{◌≡◌}
use Rattle.poets_test_journal.proofs.stored.came.Given as goal

abbrev pub invariant-loop : goal.invariant-loop
invariant-loop g l = l.machine.machine.most ≡ 9
