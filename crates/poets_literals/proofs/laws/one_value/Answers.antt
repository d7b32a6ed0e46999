use Rattle.poets_literals.proofs.ValueTexts.{one_value}
use Rattle.poets_literals.proofs.laws.one_value.Goals as goal

pub returns : goal.returns
returns c = one_value
