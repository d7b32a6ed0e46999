use Rattle.std.proofs.Common.{◌≡◌, length}
use Rattle.poets_live.proofs.Following.{Took}
use Rattle.poets_live.proofs.Places.{UpTo}
use Rattle.poets_live.proofs.watches.take_all.Given as goal

abbrev pub invariant-loop-step : goal.invariant-loop-step
invariant-loop-step l = record {
  count : l.place ≡ length l.yielded;
  took : UpTo Took (length l.yielded) l.fn.watches.items l.watches.items l.yielded;
}
