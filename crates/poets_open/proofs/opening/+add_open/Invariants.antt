use Rattle.poets_syntax.specs.Book.{book_of}
use Rattle.poets_syntax.specs.Contract.{contract_of}
use Rattle.poets_meaning.specs.Studied.{marks_of}
use Rattle.poets_meaning.specs.Width.{width}
use Rattle.poets_open.proofs.opening.+add_open.Given as goal

abbrev pub decreases-add_open : goal.decreases-add_open
decreases-add_open g l = width (book_of l.studied.now.book) (marks_of l.studied.now) (contract_of l.term.now)
