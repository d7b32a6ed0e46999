use Rattle.poets_printed.proofs.Stored.{never_too_deep_stored}
use Rattle.poets_printed.proofs.laws.never_too_deep.Goals as goal

pub returns : goal.returns
returns c = never_too_deep_stored
