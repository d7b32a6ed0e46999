use Rattle.std.proofs.Common.{◌≡◌, ◌+◌, ◌≤◌, [], take, map}
use Rattle.poets_expr.specs.Env.{declared_of}
use Rattle.poets_expr.specs.Expression.{expression_of}
use Rattle.poets_expr.specs.Val.{val}
use Rattle.poets_report.proofs.arguments.argument_values.Given as goal

abbrev pub invariant-loop-arg : goal.invariant-loop-arg
invariant-loop-arg g l = record {
  values : l.values.items ≡ map (val (declared_of l.decls.names) []) (map expression_of (take l.arg-index l.args));
  asks : l.asks ≤ l.fn.asks + l.arg-index;
  rises : l.fn.asks ≤ l.asks;
}
