use Rattle.std.proofs.Common.{List, [], refl, sym, subst}
use Rattle.poets_value.specs.declared.event.Event.{Event}
use Rattle.poets_syntax.specs.Contract.{Contract, Success, Seq}
use Rattle.poets_meaning.specs.Perf.{Perf}
use Rattle.poets_calculus.specs.Examples.{book}
use Rattle.poets_calculus.proofs.examples.in_sequence.Goals as goal

pub returns-clause-performed : goal.returns-clause-performed
returns-clause-performed c = Perf.Then refl (Perf.Left Perf.Done) (Perf.Taken refl Perf.Done)

second_alone : {c : Contract} {s : List Event} → Perf book [] (Seq Success c) s → Perf book [] c s
second_alone {c} (Perf.Then q Perf.Done p) = subst (λ u. Perf book [] c u) (sym q) p

pub returns-clause-after_success : goal.returns-clause-after_success
returns-clause-after_success c = λ d s. ((λ p. second_alone p), (λ p. Perf.Then refl Perf.Done p))
