use Rattle.poets_print.proofs.WritingCommands.{command_reads_back}
use Rattle.poets_print.proofs.laws.command_reads_back.Goals as goal

pub returns : goal.returns
returns c = command_reads_back
