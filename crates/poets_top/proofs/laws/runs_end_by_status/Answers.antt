use Rattle.poets_top.proofs.ByStatus.{runs_end_by_status, no_forms_end_by_status}
use Rattle.poets_top.proofs.laws.runs_end_by_status.Goals as goal

pub returns-clause-asked : goal.returns-clause-asked
returns-clause-asked c = runs_end_by_status

pub returns-clause-no_form : goal.returns-clause-no_form
returns-clause-no_form c = no_forms_end_by_status
