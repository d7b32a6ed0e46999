use Rattle.poets_command.specs.Statements.{statements_of}
use Rattle.poets_session.proofs.Refusing.{unreadable_refused, fault_refused}
use Rattle.poets_session.proofs.reading.read.Goals as goal

pub returns-in-Ok-clause-refused : goal.returns-in-Ok-clause-refused
returns-in-Ok-clause-refused c =
    fault_refused c.args.text.now c.args.form c.read_statements.new.names (statements_of c.in-Ok.statements.items) c.session_of.result c.in-Ok.ensures.read c.session_of.ensures.refused c.session_of.ensures.told

pub returns-in-Err-clause-refused : goal.returns-in-Err-clause-refused
returns-in-Err-clause-refused c = unreadable_refused c.args.text.now c.args.form c.read_statements.new.names c.in-Err.what c.in-Err.ensures.unreadable
