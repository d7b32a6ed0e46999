use Rattle.std.proofs.Common.{refl}
use Rattle.poets_meaning.proofs.Granting.{May-anywhere}
use Rattle.poets_meaning.proofs.laws.granted_anywhere.Goals as goal

pub returns : goal.returns
returns c = λ book env env' t n m. May-anywhere m refl env'
