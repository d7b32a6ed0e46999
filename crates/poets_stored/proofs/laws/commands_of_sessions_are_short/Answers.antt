use Rattle.poets_stored.proofs.Storing.{commands_short}
use Rattle.poets_stored.proofs.laws.commands_of_sessions_are_short.Goals as goal

pub returns : goal.returns
returns c = commands_short
