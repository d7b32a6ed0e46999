use Rattle.poets_exchange.proofs.JournalDocuments.{journals_are_read_back}
use Rattle.poets_exchange.proofs.laws.journals_are_read_back.Goals as goal

pub returns : goal.returns
returns c = journals_are_read_back
