use Rattle.poets_meaning.proofs.Unfolded.{width-unfolded}
use Rattle.poets_meaning.proofs.laws.width_unfolds.Goals as goal

pub returns : goal.returns
returns c = λ book marks d right guarded fit h. width-unfolded book marks right guarded fit d h
