use Rattle.poets_stored.proofs.Storing.{commands_read_back}
use Rattle.poets_stored.proofs.laws.commands_of_sessions_read_back.Goals as goal

pub returns : goal.returns
returns c = commands_read_back
