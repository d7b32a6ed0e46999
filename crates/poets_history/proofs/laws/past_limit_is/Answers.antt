use Rattle.poets_history.proofs.Owing.{past_limit_is}
use Rattle.poets_history.proofs.laws.past_limit_is.Goals as goal

pub returns : goal.returns
returns c = past_limit_is
