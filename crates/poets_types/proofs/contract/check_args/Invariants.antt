use Rattle.std.proofs.Common.{◌≡◌, length, drop, map}
use Rattle.poets_expr.specs.Env.{declared_of}
use Rattle.poets_expr.specs.Expression.{expression_of}
use Rattle.poets_syntax.specs.Typed.{check_args}
use Rattle.poets_types.specs.code.Scopes.{names_in}
use Rattle.poets_types.proofs.contract.check_args.Given as goal

-- the rest gives the answer
abbrev pub invariant-loop-param : goal.invariant-loop-param
invariant-loop-param l =
    check_args (declared_of l.decls.names) (names_in l.scope) l.params (map expression_of l.args)
    ≡ check_args (declared_of l.decls.names) (names_in l.scope) (drop (length l.yielded) l.params) (map expression_of (drop (length l.yielded) l.args))
