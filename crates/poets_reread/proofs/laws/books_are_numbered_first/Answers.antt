use Rattle.poets_reread.proofs.Fronts.{books_first}
use Rattle.poets_reread.proofs.laws.books_are_numbered_first.Goals as goal

pub returns : goal.returns
returns c = books_first
