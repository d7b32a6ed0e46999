use Rattle.poets_printed.proofs.ShortCommands.{short_command}
use Rattle.poets_printed.proofs.laws.commands_are_short.Goals as goal

pub returns : goal.returns
returns c = λ names ts command all whole small reads. short_command names all reads whole small
