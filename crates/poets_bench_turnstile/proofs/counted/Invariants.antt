use Rattle.std.proofs.Common.{◌≡◌}
use Rattle.poets_bench_turnstile.proofs.counted.Given as goal

abbrev pub invariant-loop-clerk : goal.invariant-loop-clerk
invariant-loop-clerk g l = l.back.items ≡ l.yielded
