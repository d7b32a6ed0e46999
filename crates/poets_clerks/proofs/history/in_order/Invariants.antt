use Rattle.std.proofs.Common.{◌≡◌, map, Some}
use Rattle.poets_clerks.proofs.history.in_order.Given as goal

-- the replies are those of the slots so far
abbrev pub invariant-loop-slot : goal.invariant-loop-slot
invariant-loop-slot g l = map Some l.replies.items ≡ l.yielded
