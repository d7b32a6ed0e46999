use Rattle.poets_norm.proofs.WellFormedness.{IsWellFormed-normal}
use Rattle.poets_norm.proofs.laws.normal_well_formed.Goals as goal

pub returns : goal.returns
returns c = λ book marks t formed. IsWellFormed-normal book marks t formed
