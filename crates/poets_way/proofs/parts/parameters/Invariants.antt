use Rattle.std.proofs.Common.{◌≡◌, length, drop, map, reverse, ◌++◌}
use Rattle.poets_expr.specs.Env.{declared_of}
use Rattle.poets_expr.specs.Expression.{expression_of}
use Rattle.poets_expr.specs.Val.{val}
use Rattle.poets_syntax.specs.Book.{parameter_env}
use Rattle.poets_way.proofs.parts.parameters.Given as goal

-- the pairs of the rest stand before those of the arguments so far
abbrev pub invariant-loop-param : goal.invariant-loop-param
invariant-loop-param l =
    let value = val (declared_of l.env.decls.now.names) (reverse l.env.pairs.now) in
    parameter_env (drop (length l.yielded) l.params) (map value (map expression_of (drop (length l.yielded) l.args))) ++ reverse l.pairs.items
    ≡ parameter_env l.params (map value (map expression_of l.args))
