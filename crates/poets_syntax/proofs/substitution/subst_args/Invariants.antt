use Rattle.std.proofs.Common.{◌≡◌, take, map, reverse}
use Rattle.poets_expr.specs.Expression.{expression_of}
use Rattle.poets_expr.specs.Subst as subst
use Rattle.poets_syntax.proofs.substitution.subst_args.Given as goal

abbrev pub invariant-loop-arg : goal.invariant-loop-arg
invariant-loop-arg l = map expression_of l.replaced.items ≡ map (subst.subst (reverse l.pairs)) (map expression_of (take l.arg-index l.arg-items))
