use Rattle.std.proofs.Common.{◌≡◌, ◌≢◌, ◌+◌, ◌-◌, true, length, take}
use Rattle.poets_value.specs.declared.value.Name.{Name}
use Rattle.poets_syntax.specs.Typed.{is_among}
use Rattle.poets_guard.specs.code.Searched.{IsSeen, IsSearching}
use Rattle.poets_guard.proofs.cycles.+lead.Given as goal

abbrev pub invariant-loop-next : goal.invariant-loop-next
invariant-loop-next l = record {
  path : l.path.items ≡ l.initial.path.items;
  searching : IsSearching l.graph l.goal l.initial.seen l.seen;
  passed : (g : Name) → is_among (take l.next-index l.next-items) g ≡ true → IsSeen l.graph l.seen g × (g ≢ l.goal);
}

abbrev pub decreases-lead : goal.decreases-lead
decreases-lead l = length l.graph.now.entries + 1 - length l.seen.now.keys
