use Rattle.poets_residue.proofs.Unfoldings.{Follows-after_at}
use Rattle.poets_residue.proofs.laws.residual_at.Goals as goal

pub returns : goal.returns
returns c = λ d book marks e t s n right formed declared h unfolds. Follows-after_at book marks right e declared formed d t unfolds h s n
