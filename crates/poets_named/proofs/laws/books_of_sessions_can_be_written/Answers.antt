use Rattle.poets_named.proofs.SessionBooks.{books_of_sessions_can_be_written}
use Rattle.poets_named.proofs.laws.books_of_sessions_can_be_written.Goals as goal

pub returns : goal.returns
returns c = books_of_sessions_can_be_written
