use Rattle.poets_exchange.proofs.Declaring.{books_declare_themselves}
use Rattle.poets_exchange.proofs.laws.books_declare_themselves.Goals as goal

pub returns : goal.returns
returns c = books_declare_themselves
