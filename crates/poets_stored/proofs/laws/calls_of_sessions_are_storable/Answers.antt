use Rattle.poets_stored.proofs.Storing.{sessions_storable, calls_storable}
use Rattle.poets_stored.proofs.laws.calls_of_sessions_are_storable.Goals as goal

pub returns : goal.returns
returns c = record { sessions = sessions_storable; scripts = calls_storable }
