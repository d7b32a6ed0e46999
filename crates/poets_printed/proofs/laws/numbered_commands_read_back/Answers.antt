use Rattle.poets_printed.proofs.Numbered.{numbered_reads_back}
use Rattle.poets_printed.proofs.laws.numbered_commands_read_back.Goals as goal

pub returns : goal.returns
returns c = numbered_reads_back
