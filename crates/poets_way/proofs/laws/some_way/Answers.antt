use Rattle.poets_way.proofs.Performing.{some_way}
use Rattle.poets_way.proofs.laws.some_way.Goals as goal

pub returns : goal.returns
returns c = λ book env k s h. some_way h
