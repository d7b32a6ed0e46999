use Rattle.std.proofs.Common.{◌≡◌, ℕ, ◌+◌, ◌<◌, ◌≤◌, length, slice_index_or}
use Rattle.std.specs.Prelude.{All}
use Rattle.poets_turn.specs.Clerks.{IsFresh, number}
use Rattle.poets_turn.proofs.types.Turn.add_clerks.Given as goal

abbrev pub invariant-loop-made : goal.invariant-loop-made
invariant-loop-made g l = record {
  long : length l.list.items + 1 ≡ l.made;
  room : l.fn.clerks + 1 ≤ l.list.room + l.made;
  first : (l.first.number ≡ 1) × (l.first.seat.me.0.count ≡ l.made) × IsFresh g.M.Machine.frame l.fn.self l.first;
  fresh : All (λ c. IsFresh g.M.Machine.frame l.fn.self c) l.list.items;
  numbers : (k : ℕ) (d : _) → k < length l.list.items → number (slice_index_or l.list.items k d) ≡ k + 2;
}
