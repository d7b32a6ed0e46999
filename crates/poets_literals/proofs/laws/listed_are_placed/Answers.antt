use Rattle.poets_literals.proofs.NameTexts.{listed_are_placed}
use Rattle.poets_literals.proofs.laws.listed_are_placed.Goals as goal

pub returns : goal.returns
returns c = listed_are_placed
