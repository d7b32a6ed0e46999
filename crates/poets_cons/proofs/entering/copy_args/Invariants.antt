use Rattle.std.proofs.Common.{◌≡◌, map, take}
use Rattle.poets_expr.specs.Expression.{expression_of}
use Rattle.poets_cons.proofs.entering.copy_args.Given as goal

abbrev pub invariant-loop-arg : goal.invariant-loop-arg
invariant-loop-arg l = map expression_of l.copies.items ≡ map expression_of (take l.arg-index l.args.items)
