use Rattle.poets_grammar.specs.StatementReading.{statement}
use Rattle.poets_grammar.proofs.Steps.{one_answer}
use Rattle.poets_grammar.proofs.Statements.{statement_complete}
use Rattle.poets_grammar.proofs.laws.one_statement.Goals as goal

pub returns : goal.returns
returns c = λ ts a b r q. one_answer (statement ts) a b (statement_complete r) (statement_complete q)
