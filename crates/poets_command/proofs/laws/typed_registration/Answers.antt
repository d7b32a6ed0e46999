use Rattle.poets_command.proofs.TypedCommands.{typed_registration}
use Rattle.poets_command.proofs.laws.typed_registration.Goals as goal

pub returns : goal.returns
returns c = typed_registration
