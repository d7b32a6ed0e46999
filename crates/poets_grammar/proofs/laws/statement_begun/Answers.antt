use Rattle.poets_grammar.proofs.Marks.{left_of, begun}
use Rattle.poets_grammar.proofs.laws.statement_begun.Goals as goal

pub returns : goal.returns
returns c = λ ts left e. (left_of ts left e, begun ts left e)
