use Rattle.std.proofs.Common.{◌≡◌, ◌<◌, List, [], ◌++◌, length}
use Rattle.std.specs.Prelude.{All}
use Rattle.poets_turn.specs.Clerks.{IsClerkOf, KnowsClerk, number, front, calls}
use Rattle.poets_turn.specs.declared.view.Stage.TheVariants.{Idle}
use Rattle.poets_turn.proofs.types.Turn.gather.Given as goal

abbrev pub invariant-loop-clerk : goal.invariant-loop-clerk
invariant-loop-clerk g l = record {
  table : l.seat.table_id ≡ l.fn.self.table.shared.table_id;
  idle : (l.seat.me.0.stage ≡ Idle) × (0 < l.seat.me.0.number) × (l.seat.me.0.heard ≡ []);
  of : All (λ c. IsClerkOf g.M.Machine.frame l.fn.self c) l.clerks.items;
  gone : (done : List _) × (l.fn.clerks.items ≡ l.clerks.items ++ done) × All (λ c. KnowsClerk l.seat.me.0 (number c) (front c) (calls c)) done;
}

abbrev pub decreases-loop-clerk : goal.decreases-loop-clerk
decreases-loop-clerk g l = length l.clerks.items
