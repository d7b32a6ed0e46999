use Rattle.poets_printed.proofs.Numbered.{numbered_are_short}
use Rattle.poets_printed.proofs.laws.numbered_commands_are_short.Goals as goal

pub returns : goal.returns
returns c = numbered_are_short
