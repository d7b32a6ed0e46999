use Rattle.std.proofs.Common.{◌≡◌, false, true, Some, refl}
use Rattle.poets_value.specs.declared.value.Value.TheVariants as V
use Rattle.poets_meaning.specs.Perf.{Perf}
use Rattle.poets_meaning.specs.May.{May}
use Rattle.poets_meaning.proofs.Inversions.{of_transmit, of_app}
use Rattle.poets_calculus.proofs.examples.a_sale.Goals as goal

pub returns-clause-performed : goal.returns-clause-performed
returns-clause-performed c = Perf.Body refl refl (Perf.Taken refl (Perf.Taken refl Perf.Done))

pub returns-clause-in_time : goal.returns-clause-in_time
returns-clause-in_time c = λ p.
    let late : Some (V.Bool false) ≡ Some (V.Bool true) = (of_transmit (of_transmit (of_app refl p)).1).0 in
    absurd cc

pub returns-clause-granted : goal.returns-clause-granted
returns-clause-granted c = May.Body refl refl (May.Taken refl (May.Granted May.Done))
