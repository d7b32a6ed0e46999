use Rattle.poets_history.proofs.Gathering.{ledger_is_gathered}
use Rattle.poets_history.proofs.laws.ledger_is_gathered.Goals as goal

pub returns : goal.returns
returns c = ledger_is_gathered
