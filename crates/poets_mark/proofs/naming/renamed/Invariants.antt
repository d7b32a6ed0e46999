use Rattle.poets_grammar.specs.Tokens.{AreNatural}
use Rattle.poets_mark.proofs.naming.renamed.Given as goal

abbrev pub invariant-loop-place : goal.invariant-loop-place
invariant-loop-place l = AreNatural l.found.items
