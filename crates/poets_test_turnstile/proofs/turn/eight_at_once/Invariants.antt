use Rattle.std.proofs.Common.{◌≡◌}
use Rattle.poets_test_turnstile.proofs.turn.eight_at_once.Given as goal

abbrev pub invariant-loop-clerk : goal.invariant-loop-clerk
invariant-loop-clerk g l = l.back.items ≡ l.yielded
