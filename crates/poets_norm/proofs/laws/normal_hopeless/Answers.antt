use Rattle.std.proofs.Common.{[], refl}
use Rattle.poets_calculus.specs.Normal.{normal}
use Rattle.poets_norm.proofs.Hope.{IsFailureOrHopeful-normal, failure_is_hopeless, hopeless_is_failure}
use Rattle.poets_norm.proofs.Meaning.{normal_in, normal_out}
use Rattle.poets_norm.proofs.laws.normal_hopeless.Goals as goal

pub returns : goal.returns
returns c = λ book marks t right formed counts. (
  (λ e h. failure_is_hopeless book (normal book marks t) e (h.0, normal_in book marks right t formed [] (λ x k. refl) [] h.0 h.1)),
  (λ denied. hopeless_is_failure book (normal book marks t) (IsFailureOrHopeful-normal book marks right t counts)
      (λ h. denied (h.0, normal_out book marks right t formed [] (λ x k. refl) [] h.0 h.1))),
)
