use Rattle.std.proofs.Common.{length}
use Rattle.poets_grammar.specs.Tokens.{AreNatural}
use Rattle.poets_mark.proofs.naming.all_said.Given as goal

abbrev pub invariant-loop-rest : goal.invariant-loop-rest
invariant-loop-rest l = AreNatural l.rest

abbrev pub decreases-loop-rest : goal.decreases-loop-rest
decreases-loop-rest l = length l.rest
