use Rattle.poets_named.proofs.ListedResiduals.{residuals_can_be_written}
use Rattle.poets_named.proofs.laws.residuals_can_be_written.Goals as goal

pub returns : goal.returns
returns c = residuals_can_be_written
