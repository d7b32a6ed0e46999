use Rattle.poets_exchange.proofs.Journals.{journals_can_be_exported}
use Rattle.poets_exchange.proofs.laws.journals_can_be_exported.Goals as goal

pub returns : goal.returns
returns c = journals_can_be_exported
