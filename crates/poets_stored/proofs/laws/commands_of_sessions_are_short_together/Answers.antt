use Rattle.poets_stored.proofs.Storing.{commands_short_together}
use Rattle.poets_stored.proofs.laws.commands_of_sessions_are_short_together.Goals as goal

pub returns : goal.returns
returns c = commands_short_together
