use Rattle.std.proofs.Common.{refl}
use Rattle.poets_meaning.proofs.Granting.{May-Perf, Perf-May}
use Rattle.poets_meaning.proofs.laws.nothing_granted.Goals as goal

pub returns : goal.returns
returns c = λ book env t s. ((λ m. May-Perf m refl), (λ p. Perf-May p))
