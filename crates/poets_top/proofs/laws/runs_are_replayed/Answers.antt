use Rattle.poets_top.proofs.Repeating.{runs_are_replayed}
use Rattle.poets_top.proofs.laws.runs_are_replayed.Goals as goal

pub returns : goal.returns
returns c = runs_are_replayed
