use Rattle.poets_live.proofs.Following.{one_event_more}
use Rattle.poets_live.proofs.laws.one_event_more.Goals as goal

pub returns : goal.returns
returns c = one_event_more
