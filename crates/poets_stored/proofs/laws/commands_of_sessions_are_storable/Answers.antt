use Rattle.poets_stored.proofs.Storing.{commands_storable}
use Rattle.poets_stored.proofs.laws.commands_of_sessions_are_storable.Goals as goal

pub returns : goal.returns
returns c = commands_storable
