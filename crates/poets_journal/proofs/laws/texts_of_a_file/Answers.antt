use Rattle.poets_journal.proofs.Held.{same_held}
use Rattle.poets_journal.proofs.Starting.{damaged_holds_none}
use Rattle.poets_journal.proofs.laws.texts_of_a_file.Goals as goal

pub returns-clause-one : goal.returns-clause-one
returns-clause-one c = λ file texts others a b. same_held file texts others a b

pub returns-clause-none : goal.returns-clause-none
returns-clause-none c = λ file number texts d. damaged_holds_none file number d texts
