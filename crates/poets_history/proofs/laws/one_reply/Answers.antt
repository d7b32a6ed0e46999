use Rattle.poets_history.proofs.OneReplies.{one_reply}
use Rattle.poets_history.proofs.laws.one_reply.Goals as goal

pub returns : goal.returns
returns c = one_reply
