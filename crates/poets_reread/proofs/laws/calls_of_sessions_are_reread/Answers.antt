use Rattle.poets_reread.proofs.Sessions.{calls_reread}
use Rattle.poets_reread.proofs.laws.calls_of_sessions_are_reread.Goals as goal

pub returns : goal.returns
returns c = calls_reread
