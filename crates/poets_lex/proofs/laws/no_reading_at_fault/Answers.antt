use Rattle.poets_lex.proofs.OneWay.{no-reading-at-fault}
use Rattle.poets_lex.proofs.laws.no_reading_at_fault.Goals as goal

pub returns : goal.returns
returns c = no-reading-at-fault
