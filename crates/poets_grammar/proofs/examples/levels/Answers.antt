use Rattle.std.proofs.Common.{refl}
use Rattle.poets_grammar.specs.Examples.{mixed, mixed_tree, less, less_tree, chained}
use Rattle.poets_grammar.specs.Reading.{whole_expression, expression, expression_at, disjunction, conjunction, negation, comparison, sum, product, prefixed, primary, literal, joined, more}
use Rattle.poets_grammar.proofs.Complete.{expression_found, no_expression}
use Rattle.poets_grammar.proofs.examples.levels.Goals as goal

pub returns-clause-by_level : goal.returns-clause-by_level
unfolding whole_expression expression expression_at disjunction conjunction negation comparison sum product prefixed primary literal joined more
returns-clause-by_level c = expression_found mixed mixed_tree refl

pub returns-clause-to_the_left : goal.returns-clause-to_the_left
unfolding whole_expression expression expression_at disjunction conjunction negation comparison sum product prefixed primary literal joined more
returns-clause-to_the_left c = expression_found less less_tree refl

pub returns-clause-no_chain : goal.returns-clause-no_chain
unfolding whole_expression expression expression_at disjunction conjunction negation comparison sum product prefixed primary literal joined more
returns-clause-no_chain c = no_expression chained 2 refl
