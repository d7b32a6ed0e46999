use Rattle.poets_books.proofs.WritingStatements.{statement_reads_back}
use Rattle.poets_books.proofs.laws.statement_reads_back.Goals as goal

pub returns : goal.returns
returns c = statement_reads_back
