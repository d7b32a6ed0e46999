use Rattle.std.proofs.Common.{◌≡◌}
use Rattle.poets_test_adder.specs.code.Adders.{most_of}
use Rattle.poets_turn.specs.Clerks.{IsClerkOf, number}
use Rattle.poets_bench_turnstile.proofs.make_share.Given as goal

abbrev pub invariant-loop : goal.invariant-loop
invariant-loop g l = IsClerkOf most_of l.fn.turn l.clerk × (number l.clerk ≡ number l.fn.clerk)
