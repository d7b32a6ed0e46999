use Rattle.poets_residue.proofs.Equations.{after-app}
use Rattle.poets_residue.proofs.laws.residual_of_application.Goals as goal

pub returns : goal.returns
returns c = λ book marks e f args study fit. after-app book marks e study f args fit
