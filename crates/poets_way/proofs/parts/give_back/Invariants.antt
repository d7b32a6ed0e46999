use Rattle.std.proofs.Common.{◌≡◌, ◌+◌, ◌++◌, length, reverse}
use Rattle.poets_way.proofs.parts.give_back.Given as goal

abbrev pub invariant-loop-event : goal.invariant-loop-event
invariant-loop-event l = record {
  events : l.events.items ++ reverse l.left.items ≡ l.fn.events.items ++ reverse l.fn.left.items;
  count : length l.events.items + length l.left.items ≡ length l.fn.events.items + length l.fn.left.items;
}

abbrev pub decreases-loop-event : goal.decreases-loop-event
decreases-loop-event l = length l.events.items
