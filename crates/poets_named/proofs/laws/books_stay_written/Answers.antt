use Rattle.poets_named.proofs.ExtendedTables.{books_stay_written}
use Rattle.poets_named.proofs.laws.books_stay_written.Goals as goal

pub returns : goal.returns
returns c = books_stay_written
