use Rattle.poets_command.proofs.TypedCommands.{typed_report}
use Rattle.poets_command.proofs.laws.typed_report.Goals as goal

pub returns : goal.returns
returns c = typed_report
