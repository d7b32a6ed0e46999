use Rattle.poets_meaning.proofs.Granting.{May-granted}
use Rattle.poets_meaning.proofs.laws.all_granted.Goals as goal

pub returns : goal.returns
returns c = λ book env t s n m. May-granted m
