use Rattle.poets_exchange.proofs.SessionBooks.{session_books_can_be_exported}
use Rattle.poets_exchange.proofs.laws.session_books_can_be_exported.Goals as goal

pub returns : goal.returns
returns c = session_books_can_be_exported
