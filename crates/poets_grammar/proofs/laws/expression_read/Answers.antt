use Rattle.poets_grammar.proofs.Complete.{whole_expression_complete, expression_found}
use Rattle.poets_grammar.proofs.laws.expression_read.Goals as goal

pub returns : goal.returns
returns c = λ ts e. (whole_expression_complete ts e, expression_found ts e)
