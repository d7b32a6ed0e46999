use Rattle.std.proofs.Common.{[], refl}
use Rattle.poets_value.specs.declared.value.Ty.TheVariants as T
use Rattle.poets_syntax.specs.Plain.{Unknown, WrongType}
use Rattle.poets_syntax.specs.Typing as R
use Rattle.poets_syntax.specs.FaultExamples.{nobody, agents, two_parts, part_and_node, choice, less, one, some_day}
use Rattle.poets_syntax.proofs.Demanded.{types_by_demands, type_faults_by_demands}
use Rattle.poets_syntax.proofs.examples.expressions.Goals as goal

pub returns-clause-left_part : goal.returns-clause-left_part
returns-clause-left_part c = (type_faults_by_demands agents [] two_parts (WrongType T.Bool T.Int)).0 refl

pub returns-clause-part_first : goal.returns-clause-part_first
returns-clause-part_first c = (type_faults_by_demands agents [] part_and_node (Unknown nobody)).0 refl

pub returns-clause-condition_first : goal.returns-clause-condition_first
returns-clause-condition_first c = (type_faults_by_demands agents [] choice (WrongType T.Bool T.Int)).0 refl

pub returns-clause-number_less_day : goal.returns-clause-number_less_day
returns-clause-number_less_day c = (type_faults_by_demands agents [] (less one) (WrongType T.Int T.Day)).0 refl

pub returns-clause-day_less_day : goal.returns-clause-day_less_day
returns-clause-day_less_day c = (types_by_demands agents [] (less some_day)).0 (T.Int, R.Days R.ADate R.ADate)
