use Rattle.std.proofs.Common.{[], refl}
use Rattle.poets_value.specs.declared.value.Ty.TheVariants as T
use Rattle.poets_syntax.specs.Plain.{Twice, Unknown, WrongCount, WrongType}
use Rattle.poets_syntax.specs.FaultExamples.{ann, pay, nobody, book, transmission, too_few, exchanged, of_nobody}
use Rattle.poets_syntax.proofs.Demanded.{contract_faults_by_demands}
use Rattle.poets_syntax.proofs.examples.contracts.Goals as goal

pub returns-clause-binder_first : goal.returns-clause-binder_first
returns-clause-binder_first c = (contract_faults_by_demands book [] [] transmission (Twice ann)).0 refl

pub returns-clause-count_first : goal.returns-clause-count_first
returns-clause-count_first c = (contract_faults_by_demands book [] [] too_few (WrongCount pay 2 1)).0 refl

pub returns-clause-left_argument : goal.returns-clause-left_argument
returns-clause-left_argument c = (contract_faults_by_demands book [] [] exchanged (WrongType T.Int T.Bool)).0 refl

pub returns-clause-template_first : goal.returns-clause-template_first
returns-clause-template_first c = (contract_faults_by_demands book [] [] of_nobody (Unknown nobody)).0 refl
