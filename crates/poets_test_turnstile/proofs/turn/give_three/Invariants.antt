use Rattle.std.proofs.Common.{◌≡◌}
use Rattle.poets_test_adder.specs.code.Adders.{most_of}
use Rattle.poets_turn.specs.Clerks.{IsClerkOf, number}
use Rattle.poets_test_turnstile.proofs.turn.give_three.Given as goal

abbrev pub invariant-loop-i : goal.invariant-loop-i
invariant-loop-i g l = IsClerkOf most_of l.fn.turn l.clerk × (number l.clerk ≡ number l.fn.clerk)
