use Rattle.std.proofs.Common.{refl}
use Rattle.poets_meaning.proofs.Granting.{May-Perf, Perf-May}
use Rattle.poets_calculus.proofs.Multisets.{Alike-sym, Alike-performed}
use Rattle.poets_calculus.proofs.laws.alike_performed.Goals as goal

pub returns : goal.returns
returns c = record {
  granted = λ book env t u s n h. ((λ m. Alike-performed h m), (λ m. Alike-performed (Alike-sym h) m));
  performed = λ book env t u s h.
      ((λ p. May-Perf (Alike-performed h (Perf-May p)) refl), (λ p. May-Perf (Alike-performed (Alike-sym h) (Perf-May p)) refl));
}
