use Rattle.poets_calculus.proofs.Unfolded.{unfolds-guarded}
use Rattle.poets_calculus.proofs.laws.enough_depth.Goals as goal

pub returns : goal.returns
returns c = λ book marks d right guarded fit h. unfolds-guarded book marks right guarded fit d h
