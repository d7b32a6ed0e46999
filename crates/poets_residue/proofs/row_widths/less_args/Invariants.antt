use Rattle.std.proofs.Common.{◌≡◌, ◌-◌, take, map}
use Rattle.poets_expr.specs.Expression.{expression_of}
use Rattle.poets_expr.specs.Size.{nodes_of_all}
use Rattle.poets_residue.proofs.row_widths.less_args.Given as goal

abbrev pub invariant-loop-arg : goal.invariant-loop-arg
invariant-loop-arg l = l.left ≡ l.initial.left - nodes_of_all (map expression_of (take l.arg-index l.args))
