use Rattle.std.proofs.Common.{sym}
use Rattle.poets_expr.specs.Expression.{Binary}
use Rattle.poets_grammar.specs.Reading.{operator, conjunction, negation, product, prefixed, expression}
use Rattle.poets_parse.proofs.Loops.{joining_next}
use Rattle.poets_parse.proofs.expression.+expression.Goals as goal

pub expression-loop-op-preserved : goal.expression-loop-op-preserved
expression-loop-op-preserved g c =
    joining_next (operator 1) Binary (conjunction expression) c.in-Some.behind.now c.in_ok-right.after.now c.loop-op.invariant
    (sym c.in-Some.ensures.found) c.in-Some.ensures.shorter c.in_ok-right.ensures.gives c.in_ok-right.ensures.shorter c.in_ok-left-2.ensures

pub conjunction-loop-op-preserved : goal.conjunction-loop-op-preserved
conjunction-loop-op-preserved g c =
    joining_next (operator 2) Binary (negation expression) c.in-Some.behind.now c.in_ok-right.after.now c.loop-op.invariant
    (sym c.in-Some.ensures.found) c.in-Some.ensures.shorter c.in_ok-right.ensures.gives c.in_ok-right.ensures.shorter c.in_ok-left-2.ensures

pub sum-loop-op-preserved : goal.sum-loop-op-preserved
sum-loop-op-preserved g c =
    joining_next (operator 5) Binary (product expression) c.in-Some.behind.now c.in_ok-right.after.now c.loop-op.invariant
    (sym c.in-Some.ensures.found) c.in-Some.ensures.shorter c.in_ok-right.ensures.gives c.in_ok-right.ensures.shorter c.in_ok-left-2.ensures

pub product-loop-op-preserved : goal.product-loop-op-preserved
product-loop-op-preserved g c =
    joining_next (operator 6) Binary (prefixed expression) c.in-Some.behind.now c.in_ok-right.after.now c.loop-op.invariant
    (sym c.in-Some.ensures.found) c.in-Some.ensures.shorter c.in_ok-right.ensures.gives c.in_ok-right.ensures.shorter c.in_ok-left-2.ensures
