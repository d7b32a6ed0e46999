use Rattle.poets_grammar.proofs.Statements.{statement_complete, statement_found}
use Rattle.poets_grammar.proofs.laws.statement_read.Goals as goal

pub returns : goal.returns
returns c = λ ts s. (λ is. statement_complete is, statement_found ts s)
