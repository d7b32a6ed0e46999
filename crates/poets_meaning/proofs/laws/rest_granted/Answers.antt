use Rattle.std.proofs.Common.{refl}
use Rattle.poets_meaning.proofs.Granting.{Perf-rest}
use Rattle.poets_meaning.proofs.laws.rest_granted.Goals as goal

pub returns : goal.returns
returns c = λ book env t s rest p. Perf-rest p s rest refl
