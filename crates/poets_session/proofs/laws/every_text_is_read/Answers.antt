use Rattle.poets_session.proofs.LawsEvery.{every_valid, every_text}
use Rattle.poets_session.proofs.laws.every_text_is_read.Goals as goal

pub returns-clause-text : goal.returns-clause-text
returns-clause-text c = every_text

pub returns-clause-statements : goal.returns-clause-statements
returns-clause-statements c = every_valid
