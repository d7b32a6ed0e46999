use Rattle.poets_grammar.specs.Reading.{whole_expression}
use Rattle.poets_grammar.proofs.Steps.{one_answer}
use Rattle.poets_grammar.proofs.Complete.{whole_expression_complete}
use Rattle.poets_grammar.proofs.laws.one_expression.Goals as goal

pub returns : goal.returns
returns c = λ ts a b r q. one_answer (whole_expression ts) a b (whole_expression_complete ts a r) (whole_expression_complete ts b q)
