use Rattle.poets_command.proofs.TypedCommands.{typed_event}
use Rattle.poets_command.proofs.laws.typed_event.Goals as goal

pub returns : goal.returns
returns c = typed_event
