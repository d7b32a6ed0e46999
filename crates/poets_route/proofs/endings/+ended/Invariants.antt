use Rattle.poets_syntax.specs.Contract.{contract_of}
use Rattle.poets_meaning.specs.InStudied.{width_in}
use Rattle.poets_route.proofs.endings.+ended.Given as goal

abbrev pub decreases-ended : goal.decreases-ended
decreases-ended l = width_in l.studied.now (contract_of l.term.now)
