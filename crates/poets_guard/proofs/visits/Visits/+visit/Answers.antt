use Rattle.std.proofs.Common.{inl, inr, take, ◌+◌, arith, refl, sym, ◌∙◌, ap}
use Rattle.std.specs.Prelude.{slice_index_or}
use Rattle.poets_value.specs.declared.value.Name.{Name}
use Rattle.poets_guard.specs.code.Graph.{HasEdge}
use Rattle.poets_guard.specs.code.Visited.{IsPushed, IsFrom}
use Rattle.poets_guard.specs.declared.visits.Visits.{Visits}
use Rattle.poets_guard.proofs.Walking.{edge-at, edges-all}
use Rattle.poets_guard.proofs.Visiting.{not-open, IsVisited-before, AreOpened-self, AreOpened-trans, AreRight-pushed, longer, few, AllLead-next, seen-more, way-more, IsVisited-open, IsVisited-closed}
use Rattle.poets_guard.proofs.visits.Visits.+visit.Goals as goal

pub returns-in_default : goal.returns-in_default
returns-in_default t c =
    IsVisited-before c.args.graph.now c.args.self.now c.args.name c.len-height.result c.requires.right (inl (sym c.in_default.ensures.value))
    (λ g s. absurd (not-open c.args.self.now c.len-height.result c.len-height.result g (c.len-height.ensures ∙ c.args.self.now.stack.ok.0) (omega arith) s))

pub returns-then-is_open : goal.returns-then-is_open
returns-then-is_open t c =
    IsVisited-before c.args.graph.now c.args.self.now c.args.name c.in-Some-get.known.now c.requires.right (inr (c.in-Some-get.known.now, sym c.in-Some-get.ensures.value, λ _. omega arith))
    (λ g s. let q = sym (c.is_open.ensures.0 c.if-is_open.true) ∙ s in cc)

pub returns-else-is_open : goal.returns-else-is_open
returns-else-is_open t c =
    IsVisited-before c.args.graph.now c.args.self.now c.args.name c.len-height.result c.requires.right
    (inr (c.in-Some-get.known.now, sym c.in-Some-get.ensures.value, λ s. absurd (let q = sym (c.is_open.ensures.1 s) ∙ c.if-is_open.false in cc)))
    (λ g s. absurd (not-open c.args.self.now c.len-height.result c.len-height.result g (c.len-height.ensures ∙ c.args.self.now.stack.ok.0) (omega arith) s))

pub loop-next-init : goal.loop-next-init
loop-next-init t c = record {
  pushed = pushed;
  opened = AreOpened-self c.args.graph.now start (c.len-height.result + 1)
      (AreRight-pushed c.args.name c.len-height.result c.args.self.now start pushed c.args.graph.now c.in-Some.node.now (sym c.in-Some.ensures.value) c.requires.right);
  seen = λ g e. absurd cc;
  way = λ g s. absurd (not-open start (c.len-height.result + 1) (c.len-height.result + 1) g (sym (longer c.args.name c.len-height.result c.args.self.now start pushed)) (omega arith) s);
}
  where
    start : Visits
    start = record { heights = c.insert.new.self; stack = c.push.new.self; on_cycles = c.args.self.now.on_cycles }

    pushed : IsPushed c.args.name c.len-height.result c.args.self.now start
    pushed = record {
      top = c.len-height.ensures ∙ c.args.self.now.stack.ok.0;
      fresh = sym c.in_default-get.ensures.value;
      heights = c.in_ok-insert.ensures.updates.0;
      stack = c.in_ok-push.ensures.items;
      on_cycles = refl;
      as_many = rw (c.in_ok-insert.ensures.old ∙ sym c.in_default-get.ensures.value) at c.in_ok-insert.ensures.len;
    }

pub visit-requires : goal.visit-requires
visit-requires t c = (
  (let m = c.decreases in let n = c.loop-next.invariant.pushed.as_many in let right = AreRight-pushed c.args.name c.len-height.result c.args.self.now _ c.loop-next.invariant.pushed c.args.graph.now c.in-Some.node.now (sym c.in-Some.ensures.value) c.requires.right in
      let f = few c.args.graph.now c.insert.new.self c.in_ok-insert.ensures.ordered right.have_nodes in
      let s = c.loop-next.invariant.opened.grown.as_many in omega (arith, m, n, f, s)),
  (
    c.loop-next.invariant.opened.right,
    c.loop-next.invariant.opened.back next (AllLead-next c.args.name c.len-height.result c.args.self.now _ c.loop-next.invariant.pushed c.args.graph.now next c.requires.lead edge),
  ),
)
  where
    next : Name
    next = slice_index_or c.as_slice-next-items.result.now c.loop-next.next-index (record { id = 0 })

    edge : HasEdge c.args.graph.now c.args.name next
    edge = edge-at c.args.graph.now c.args.name c.in-Some.node.now c.as_slice-next-items.result.now c.loop-next.next-index (sym c.in-Some.ensures.value) c.as_slice-next-items.ensures (record { id = 0 })
        c.loop-next-test.true

pub loop-next-preserved : goal.loop-next-preserved
loop-next-preserved t c = record {
  pushed = c.loop-next.invariant.pushed;
  opened = rw c.min-least.ensures (AreOpened-trans c.args.graph.now c.loop-next.least c.in_ok-visit.field-0 _ c.loop-next.self c.visit.new.self c.loop-next.invariant.opened c.in_ok-visit.ensures.opened);
  seen = rw c.min-least.ensures (seen-more c.args.graph.now c.loop-next.self c.visit.new.self c.in_ok-visit.ensures.opened.grown c.loop-next.least c.in_ok-visit.field-0
      c.as_slice-next-items.result.now c.loop-next.next-index (record { id = 0 }) c.loop-next-test.true c.loop-next.invariant.seen c.in_ok-visit.ensures.here);
  way = rw c.min-least.ensures (way-more c.args.graph.now _ c.loop-next.self c.loop-next.least c.in_ok-visit.field-0 c.args.name next c.loop-next.invariant.opened.grown edge
      c.loop-next.invariant.way c.in_ok-visit.ensures.way);
}
  where
    next : Name
    next = slice_index_or c.as_slice-next-items.result.now c.loop-next.next-index (record { id = 0 })

    edge : HasEdge c.args.graph.now c.args.name next
    edge = edge-at c.args.graph.now c.args.name c.in-Some.node.now c.as_slice-next-items.result.now c.loop-next.next-index (sym c.in-Some.ensures.value) c.as_slice-next-items.ensures (record { id = 0 })
        c.loop-next-test.true

pub returns-then-least-height : goal.returns-then-least-height
returns-then-least-height t c =
    IsVisited-open c.args.graph.now c.args.name c.in-Some.node.now (sym c.in-Some.ensures.value) c.len-height.result c.loop-next.least c.args.self.now _ c.loop-next.self c.note.new.self
    c.loop-next.invariant.pushed c.loop-next.invariant.opened
    (edges-all c.args.graph.now c.args.name c.in-Some.node.now c.as_slice-next-items.result.now c.loop-next.next-index (sym c.in-Some.ensures.value) c.as_slice-next-items.ensures
    (IsFrom c.args.graph.now c.loop-next.self c.loop-next.least) c.loop-next-test.false c.loop-next.invariant.seen) c.loop-next.invariant.way c.requires.lead
    (record { heights = c.in_ok-note.ensures.heights; on_cycle = c.in_ok-note.ensures.on_cycle; others = c.in_ok-note.ensures.others; still = c.in_ok-note.ensures.still })
    (ap (λ v. v.items) c.in_ok-note.ensures.stack) c.if-least-height.true

pub returns : goal.returns
returns t c =
    IsVisited-closed c.args.graph.now c.args.name c.in-Some.node.now (sym c.in-Some.ensures.value) c.len-height.result c.loop-next.least c.args.self.now _ c.loop-next.self
    (record { heights = c.note.new.self.heights; stack = c.truncate.new.self; on_cycles = c.note.new.self.on_cycles })
    c.loop-next.invariant.pushed c.loop-next.invariant.opened
    (edges-all c.args.graph.now c.args.name c.in-Some.node.now c.as_slice-next-items.result.now c.loop-next.next-index (sym c.in-Some.ensures.value) c.as_slice-next-items.ensures
    (IsFrom c.args.graph.now c.loop-next.self c.loop-next.least) c.loop-next-test.false c.loop-next.invariant.seen) c.loop-next.invariant.way c.requires.lead
    (record { heights = c.in_ok-note.ensures.heights; on_cycle = c.in_ok-note.ensures.on_cycle; others = c.in_ok-note.ensures.others; still = c.in_ok-note.ensures.still })
    (c.truncate.ensures.items ∙ ap (λ v. take c.len-height.result v.items) c.in_ok-note.ensures.stack) c.if-least-height.false
