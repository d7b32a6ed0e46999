use Rattle.poets_way.proofs.Performing.{ways_perform}
use Rattle.poets_way.proofs.laws.ways_perform.Goals as goal

pub returns : goal.returns
returns c = λ book env k s w h. ways_perform h
