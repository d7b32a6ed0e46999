use Rattle.std.proofs.Common.{◌+◌, ◌*◌, ◌≤◌}
use Rattle.poets_expr.specs.Env.{declared_of}
use Rattle.poets_live.specs.Watching.{IsSeen}
use Rattle.poets_live.proofs.Places.{UpTo}
use Rattle.poets_live.proofs.watches.see_all.Given as goal

abbrev pub invariant-loop-place : goal.invariant-loop-place
invariant-loop-place g l = record {
  seen : UpTo (IsSeen (declared_of l.decls.names) l.event) l.place l.fn.watches.items l.watches.items l.moves.items;
  asks : l.asks ≤ l.fn.asks + 2 * l.place;
  rises : l.fn.asks ≤ l.asks;
}
