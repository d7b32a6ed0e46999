use Rattle.poets_session.proofs.LawsFitting.{statement_fits, read_table, read_written, scripts_written, journal_written}
use Rattle.poets_session.proofs.laws.sessions_are_written.Goals as goal

pub returns-clause-statements : goal.returns-clause-statements
returns-clause-statements c = λ text names statements read. (read_table text names statements read, read_written text names statements read)

pub returns-clause-statement : goal.returns-clause-statement
returns-clause-statement c = λ names ts s h is. statement_fits names is h

pub returns-clause-commands : goal.returns-clause-commands
returns-clause-commands c = λ names statements h. (scripts_written names statements h, journal_written names statements h)
