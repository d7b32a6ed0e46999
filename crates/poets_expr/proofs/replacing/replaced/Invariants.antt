use Rattle.std.proofs.Common.{◌≡◌, reverse, take}
use Rattle.poets_expr.specs.Expression.{expression_of}
use Rattle.poets_expr.specs.Subst as subst
use Rattle.poets_expr.proofs.replacing.replaced.Given as goal

-- what the pairs so far put in place of the name
abbrev pub invariant-loop-pair : goal.invariant-loop-pair
invariant-loop-pair l = expression_of l.found ≡ subst.replaced (reverse (take l.pair-index l.pairs)) l.name
