use Rattle.poets_syntax.proofs.WholeContracts.{IsWhole-replace}
use Rattle.poets_syntax.proofs.laws.replaced_whole.Goals as goal

pub returns : goal.returns
returns c = IsWhole-replace
