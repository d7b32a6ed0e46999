use Rattle.poets_session.proofs.LawsListed.{text_fault_listed, statement_fault_listed}
use Rattle.poets_session.proofs.laws.faults_are_listed.Goals as goal

pub returns-clause-texts : goal.returns-clause-texts
returns-clause-texts c = text_fault_listed

pub returns-clause-statements : goal.returns-clause-statements
returns-clause-statements c = statement_fault_listed
