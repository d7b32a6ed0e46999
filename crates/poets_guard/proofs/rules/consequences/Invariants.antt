use Rattle.std.proofs.Common.{◌≡◌, ℕ, [], length}
use Rattle.std.specs.List.{sum_by}
use Rattle.poets_guard.specs.code.Rules.{IsLearning, lists, list_at, work}
use Rattle.poets_guard.proofs.rules.consequences.Given as goal

abbrev pub invariant-loop : goal.invariant-loop
invariant-loop l = record {
  len : length l.waiting.items ≡ l.counter;
  none : (k : ℕ) → list_at l.waiting.items k ≡ [];
  empty : sum_by length (lists l.waiting.items) ≡ 0;
}

abbrev pub invariant-loop-rule : goal.invariant-loop-rule
invariant-loop-rule l = record {
  facts : length l.known.facts.items ≡ l.count;
  waiting : length l.known.waiting.items ≡ l.count;
  learning : IsLearning l.fn.rules.items l.known.facts.items (lists l.known.waiting.items) l.known.pending.items;
}

abbrev pub decreases-loop-rule : goal.decreases-loop-rule
decreases-loop-rule l = work l.fn.rules.items l.known.facts.items l.known.pending.items
