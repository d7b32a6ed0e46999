use Rattle.std.proofs.Common.{◌≡◌, ◌+◌, ◌≤◌, ◌++◌, map, drop, sum_by}
use Rattle.poets_expr.specs.Env.{declared_of}
use Rattle.poets_expr.specs.Expression.{expression_of}
use Rattle.poets_calculus.specs.Normal.{folded}
use Rattle.poets_norm.specs.Questions.{operated}
use Rattle.poets_norm.proofs.applications.folded.Given as goal

-- the rest is yet to be folded
abbrev pub invariant-loop-place : goal.invariant-loop-place
invariant-loop-place g l = record {
  value : map expression_of l.folded.items ++ folded (declared_of l.decls.names) (drop l.place l.params) (map expression_of (drop l.place l.args))
      ≡ folded (declared_of l.decls.names) l.params (map expression_of l.args);
  rises : l.fn.asks ≤ l.asks;
  questions : l.asks + sum_by operated (map expression_of l.folded.items) + sum_by operated (map expression_of (drop l.place l.args))
      ≤ l.fn.asks + sum_by operated (map expression_of l.args);
}
