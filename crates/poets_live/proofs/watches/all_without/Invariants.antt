use Rattle.std.proofs.Common.{◌+◌, ◌≤◌, length, map, sum_by, take}
use Rattle.std.specs.Prelude.{remove}
use Rattle.std.specs.List.{AllZip}
use Rattle.poets_live.specs.Watching.{asked_without}
use Rattle.poets_live.specs.code.Watches.{IsLed}
use Rattle.poets_live.proofs.watches.all_without.Given as goal

abbrev pub invariant-loop-watch : goal.invariant-loop-watch
invariant-loop-watch g l = record {
  led : AllZip (IsLed l.decls (remove l.log l.place)) (take l.watch-index l.watches) l.moves.items;
  asks : l.asks ≤ l.fn.asks + sum_by (asked_without (length l.log) l.place) (map (λ s. s.watch) (take l.watch-index l.watches));
  rises : l.fn.asks ≤ l.asks;
}
