use Rattle.poets_residue.proofs.Studies.{IsStudied-book}
use Rattle.poets_residue.proofs.laws.studied_books.Goals as goal

pub returns : goal.returns
returns c = λ book marks h. IsStudied-book book marks h
