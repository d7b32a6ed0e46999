use Rattle.poets_residue.proofs.Unfoldings.{Is-after_at}
use Rattle.poets_residue.proofs.laws.residual_is.Goals as goal

pub returns : goal.returns
returns c = λ d book marks e t r right unfolds after. Is-after_at book marks right e d t r after unfolds
