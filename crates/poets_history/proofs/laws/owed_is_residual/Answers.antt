use Rattle.poets_history.proofs.Owing.{owed_is_residual}
use Rattle.poets_history.proofs.laws.owed_is_residual.Goals as goal

pub returns : goal.returns
returns c = owed_is_residual
