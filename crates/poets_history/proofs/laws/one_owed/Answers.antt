use Rattle.poets_history.proofs.Owing.{one_owed}
use Rattle.poets_history.proofs.laws.one_owed.Goals as goal

pub returns : goal.returns
returns c = one_owed
