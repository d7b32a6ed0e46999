use Rattle.std.proofs.Common.{◌≡◌, ◌+◌, ◌≤◌, length, drop, map, reverse, ◌++◌}
use Rattle.std.specs.Prelude.{sum_by}
use Rattle.poets_expr.specs.Env.{declared_of}
use Rattle.poets_expr.specs.Expression.{expression_of}
use Rattle.poets_syntax.specs.Givens.{argument_givens}
use Rattle.poets_norm.specs.Questions.{operated}
use Rattle.poets_residue.proofs.bodies.argument_givens.Given as goal

-- the pairs of the rest stand before those of the arguments so far
abbrev pub invariant-loop-param : goal.invariant-loop-param
invariant-loop-param g l = record {
  pairs : argument_givens (declared_of l.decls.names) l.params (map expression_of l.args)
      ≡ argument_givens (declared_of l.decls.names) (drop (length l.yielded) l.params) (map expression_of (drop (length l.yielded) l.args)) ++ reverse l.pairs.items;
  rises : l.initial.asks ≤ l.asks;
  asks : l.asks + sum_by operated (map expression_of (drop (length l.yielded) l.args)) ≤ l.initial.asks + sum_by operated (map expression_of l.args);
}
