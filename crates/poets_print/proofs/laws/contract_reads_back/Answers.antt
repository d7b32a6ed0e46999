use Rattle.poets_print.proofs.WritingCommands.{contract_reads_back}
use Rattle.poets_print.proofs.laws.contract_reads_back.Goals as goal

pub returns : goal.returns
returns c = contract_reads_back
