use Rattle.poets_residue.proofs.Relation.{After-follows}
use Rattle.poets_residue.proofs.laws.residual_follows.Goals as goal

pub returns : goal.returns
returns c = λ book marks e t r s n right formed declared h after. After-follows book marks right formed e declared after h s n
