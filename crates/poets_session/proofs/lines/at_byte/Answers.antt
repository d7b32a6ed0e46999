use Rattle.std.proofs.Common.{append_assoc}
use Rattle.poets_session.proofs.lines.at_byte.Goals as goal

pub returns : goal.returns
returns c = simp append_assoc c.in_ok-format.ensures.ok
