use Rattle.poets_named.proofs.WrittenHistories.{replies_can_be_written}
use Rattle.poets_named.proofs.laws.replies_can_be_written.Goals as goal

pub returns : goal.returns
returns c = replies_can_be_written
