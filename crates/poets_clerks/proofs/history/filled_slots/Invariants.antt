use Rattle.std.proofs.Common.{length}
use Rattle.poets_clerks.specs.Histories.{HoldReplies}
use Rattle.poets_clerks.specs.Scripts.{pairs_of}
use Rattle.poets_clerks.proofs.history.filled_slots.Given as goal

-- the slots hold the replies of the answers so far
abbrev pub invariant-loop-place : goal.invariant-loop-place
invariant-loop-place g l = HoldReplies (length l.fn.answers.items) (pairs_of l.yielded) l.slots.items
