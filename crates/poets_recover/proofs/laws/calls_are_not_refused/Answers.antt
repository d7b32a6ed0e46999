use Rattle.poets_recover.proofs.Excluding.{calls_unrefused}
use Rattle.poets_recover.proofs.laws.calls_are_not_refused.Goals as goal

pub returns : goal.returns
returns c = calls_unrefused
