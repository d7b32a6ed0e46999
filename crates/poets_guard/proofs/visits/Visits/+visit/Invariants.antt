use Rattle.std.proofs.Common.{◌≡◌, ◌+◌, ◌-◌, true, length, take}
use Rattle.poets_value.specs.declared.value.Name.{Name}
use Rattle.poets_syntax.specs.Typed.{is_among}
use Rattle.poets_guard.specs.code.Walks.{Reaches}
use Rattle.poets_guard.specs.code.Visited.{IsOpenAt, IsFrom, IsPushed, AreOpened}
use Rattle.poets_guard.proofs.visits.Visits.+visit.Given as goal

abbrev pub invariant-loop-next : goal.invariant-loop-next
invariant-loop-next l = record {
  pushed : IsPushed l.name l.height l.fn.self l.initial.self;
  opened : AreOpened l.graph l.least l.initial.self l.self;
  seen : (g : Name) → is_among (take l.next-index l.next-items) g ≡ true → IsFrom l.graph l.self l.least g;
  way : (g : Name) → IsOpenAt l.initial.self l.least g → Reaches l.graph l.name g;
}

abbrev pub decreases-visit : goal.decreases-visit
decreases-visit l = length l.graph.now.entries + 1 - length l.self.now.heights.entries
