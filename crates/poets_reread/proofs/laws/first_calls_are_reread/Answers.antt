use Rattle.poets_reread.proofs.Sessions.{first_calls_reread}
use Rattle.poets_reread.proofs.laws.first_calls_are_reread.Goals as goal

pub returns : goal.returns
returns c = first_calls_reread
