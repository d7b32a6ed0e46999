use Rattle.poets_residue.proofs.Relation.{After-one}
use Rattle.poets_residue.proofs.laws.residual_one.Goals as goal

pub returns : goal.returns
returns c = λ book marks e t r q a b. After-one a b
