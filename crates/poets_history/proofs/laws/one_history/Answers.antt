use Rattle.poets_history.proofs.Histories.{one_history}
use Rattle.poets_history.proofs.laws.one_history.Goals as goal

pub returns : goal.returns
returns c = one_history
