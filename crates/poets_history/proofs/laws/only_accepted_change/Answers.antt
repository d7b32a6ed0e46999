use Rattle.poets_history.proofs.Accepting.{only_accepted_change}
use Rattle.poets_history.proofs.laws.only_accepted_change.Goals as goal

pub returns : goal.returns
returns c = only_accepted_change
