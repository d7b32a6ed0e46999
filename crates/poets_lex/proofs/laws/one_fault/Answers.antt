use Rattle.poets_lex.proofs.OneWay.{one-first-fault}
use Rattle.poets_lex.proofs.laws.one_fault.Goals as goal

pub returns : goal.returns
returns c = one-first-fault
