use Rattle.std.proofs.Common.{◌+◌, ◌*◌, length}
use Rattle.poets_expr.specs.Expression.{Binary, expression_of}
use Rattle.poets_grammar.specs.Reading.{operator, conjunction, negation, product, prefixed, expression}
use Rattle.poets_parse.proofs.Loops.{Joining}
use Rattle.poets_parse.proofs.expression.+expression.Given as goal

-- the rules in their order, and less of the tokens

abbrev pub decreases-primary : goal.decreases-primary
decreases-primary l = 16 * length l.tokens.now + 1

abbrev pub decreases-prefixed : goal.decreases-prefixed
decreases-prefixed l = 16 * length l.tokens.now + 2

abbrev pub decreases-product : goal.decreases-product
decreases-product l = 16 * length l.tokens.now + 3

abbrev pub decreases-sum : goal.decreases-sum
decreases-sum l = 16 * length l.tokens.now + 4

abbrev pub decreases-comparison : goal.decreases-comparison
decreases-comparison l = 16 * length l.tokens.now + 5

abbrev pub decreases-negation : goal.decreases-negation
decreases-negation l = 16 * length l.tokens.now + 6

abbrev pub decreases-conjunction : goal.decreases-conjunction
decreases-conjunction l = 16 * length l.tokens.now + 7

abbrev pub decreases-expression : goal.decreases-expression
decreases-expression l = 16 * length l.tokens.now + 8

abbrev pub decreases-closed : goal.decreases-closed
decreases-closed l = 16 * length l.tokens.now + 9

abbrev pub decreases-amount_of : goal.decreases-amount_of
decreases-amount_of l = 16 * length l.tokens.now + 10

abbrev pub decreases-kind_of : goal.decreases-kind_of
decreases-kind_of l = 16 * length l.tokens.now + 10

abbrev pub decreases-made : goal.decreases-made
decreases-made l = 16 * length l.tokens.now + 10

abbrev pub decreases-conditional : goal.decreases-conditional
decreases-conditional l = 16 * length l.tokens.now + 10

abbrev pub decreases-primary_word : goal.decreases-primary_word
decreases-primary_word l = 16 * length l.tokens.now + 11

abbrev pub invariant-expression-loop-op : goal.invariant-expression-loop-op
invariant-expression-loop-op l = Joining (operator 1) Binary (conjunction expression) l.tokens (expression_of l.left) l.rest

abbrev pub decreases-expression-loop-op : goal.decreases-expression-loop-op
decreases-expression-loop-op l = length l.rest

abbrev pub invariant-conjunction-loop-op : goal.invariant-conjunction-loop-op
invariant-conjunction-loop-op l = Joining (operator 2) Binary (negation expression) l.tokens (expression_of l.left) l.rest

abbrev pub decreases-conjunction-loop-op : goal.decreases-conjunction-loop-op
decreases-conjunction-loop-op l = length l.rest

abbrev pub invariant-sum-loop-op : goal.invariant-sum-loop-op
invariant-sum-loop-op l = Joining (operator 5) Binary (product expression) l.tokens (expression_of l.left) l.rest

abbrev pub decreases-sum-loop-op : goal.decreases-sum-loop-op
decreases-sum-loop-op l = length l.rest

abbrev pub invariant-product-loop-op : goal.invariant-product-loop-op
invariant-product-loop-op l = Joining (operator 6) Binary (prefixed expression) l.tokens (expression_of l.left) l.rest

abbrev pub decreases-product-loop-op : goal.decreases-product-loop-op
decreases-product-loop-op l = length l.rest
