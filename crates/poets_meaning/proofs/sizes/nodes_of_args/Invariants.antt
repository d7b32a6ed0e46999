use Rattle.std.proofs.Common.{◌≡◌, ◌-◌, ◌^◌, min, take, map}
use Rattle.poets_expr.specs.Expression.{expression_of}
use Rattle.poets_expr.specs.Size.{nodes_of_all}
use Rattle.poets_meaning.proofs.sizes.nodes_of_args.Given as goal

abbrev pub invariant-loop-arg : goal.invariant-loop-arg
invariant-loop-arg l = l.sum ≡ min (nodes_of_all (map expression_of (take l.arg-index l.args))) (2 ^ 64 - 1)
