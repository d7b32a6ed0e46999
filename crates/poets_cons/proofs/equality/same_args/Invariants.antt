use Rattle.std.proofs.Common.{◌≡◌, map, length}
use Rattle.poets_expr.specs.Expression.{expression_of}
use Rattle.poets_syntax.specs.Same as same
use Rattle.poets_cons.proofs.equality.same_args.Given as goal

abbrev pub invariant-loop-x : goal.invariant-loop-x
invariant-loop-x l =
    same.same_args (map expression_of l.left) (map expression_of l.right) ≡ same.same_args (map expression_of l.a) (map expression_of l.b)

abbrev pub decreases-loop-x : goal.decreases-loop-x
decreases-loop-x l = length l.left
