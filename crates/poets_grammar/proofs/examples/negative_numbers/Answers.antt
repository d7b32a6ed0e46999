use Rattle.std.proofs.Common.{refl}
use Rattle.poets_grammar.specs.Examples.{negative, negative_tree, negated, negated_tree}
use Rattle.poets_grammar.specs.Reading.{whole_expression, expression, expression_at, disjunction, conjunction, negation, comparison, sum, product, prefixed, primary, closed, literal, negative as negative_number, joined, more}
use Rattle.poets_grammar.proofs.Complete.{expression_found}
use Rattle.poets_grammar.proofs.examples.negative_numbers.Goals as goal

pub returns-clause-number : goal.returns-clause-number
unfolding whole_expression expression expression_at disjunction conjunction negation comparison sum product prefixed primary literal negative_number joined more
returns-clause-number c = expression_found negative negative_tree refl

pub returns-clause-negation : goal.returns-clause-negation
unfolding whole_expression expression expression_at disjunction conjunction negation comparison sum product prefixed primary closed literal joined more
returns-clause-negation c = expression_found negated negated_tree refl
