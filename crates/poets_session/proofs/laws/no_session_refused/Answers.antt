use Rattle.poets_session.proofs.LawsRefused.{valid_unrefused, session_unrefused}
use Rattle.poets_session.proofs.laws.no_session_refused.Goals as goal

pub returns-clause-text : goal.returns-clause-text
returns-clause-text c = session_unrefused

pub returns-clause-statements : goal.returns-clause-statements
returns-clause-statements c = valid_unrefused
