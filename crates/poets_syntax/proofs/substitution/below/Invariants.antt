use Rattle.std.proofs.Common.{◌≡◌, take, reverse}
use Rattle.poets_syntax.specs.Replace.{without}
use Rattle.poets_syntax.proofs.substitution.below.Given as goal

abbrev pub invariant-loop-pair : goal.invariant-loop-pair
invariant-loop-pair l = reverse l.kept.items ≡ without l.binders (reverse (take l.pair-index l.pairs))
