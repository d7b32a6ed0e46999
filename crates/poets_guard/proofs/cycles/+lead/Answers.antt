use Rattle.std.proofs.Common.{◌≡◌, arith, refl, sym, ◌∙◌, ap, subst, true, false, [], ◌∷◌, ◌++◌}
use Rattle.std.specs.Prelude.{slice_index_or, Ok}
use Rattle.poets_value.specs.declared.value.Name.{Name}
use Rattle.poets_guard.specs.code.Graph.{HasEdge}
use Rattle.poets_expr.proofs.SameTrees.{name_one}
use Rattle.poets_guard.proofs.Places.{same_name-one}
use Rattle.poets_guard.proofs.Walking.{edge-at}
use Rattle.poets_guard.proofs.Searching.{IsSearching-self, IsSearching-trans, HaveNodes-more, passed_more, IsSearched-node, no_more_seen, LeadsOn-next}
use Rattle.poets_guard.proofs.cycles.+lead.Goals as goal
use Rattle.poets_guard.proofs.cycles.+lead.Goals.{then-eq-via-then-eq, then-eq-via-else-eq+in_ok-lead+then-branch}

pub loop-next-init : goal.loop-next-init
loop-next-init t c = record {
  path = refl;
  searching = IsSearching-self c.args.graph.now c.args.goal c.insert.new.self
      (HaveNodes-more c.args.graph.now c.args.seen.now c.insert.new.self c.args.from c.in-Some.node.now c.requires (sym c.in-Some.ensures.value) c.in_ok-insert.ensures.updates.0);
  passed = λ g e. absurd cc;
}

pub lead-requires : goal.lead-requires
lead-requires t c = (
  (let m = c.decreases in let s = c.loop-next.invariant.searching.as_many in let l = rw c.if-not-branch.false at c.in_ok-insert.ensures.len in
      let f = no_more_seen c.args.graph.now c.insert.new.self
      (HaveNodes-more c.args.graph.now c.args.seen.now c.insert.new.self c.args.from c.in-Some.node.now c.requires (sym c.in-Some.ensures.value) c.in_ok-insert.ensures.updates.0)
      c.in_ok-insert.ensures.ordered in omega (arith, m, s, l, f)),
  c.loop-next.invariant.searching.have_nodes,
)

pub returns-then-eq-clause-led : goal.returns-then-eq-clause-led
returns-then-eq-clause-led t c = λ _. elim c.then-eq.branch [
  | then-eq-via-then-eq w ↦ (
    [],
    ap (λ p. p.items) w.path-is ∙ longer,
    subst (HasEdge c.args.graph.now c.args.from) (name_one next c.args.goal (sym c.eq.ensures ∙ w.if-eq.true)) edge,
  )
  | then-eq-via-else-eq+in_ok-lead+then-branch w ↦
      LeadsOn-next c.args.graph.now c.args.goal c.args.from next c.args.path.now.items c.loop-next.path.items c.then-eq.path.items longer edge
      (rw w.path-is (w.in_ok-lead.ensures.led (ap Ok w.if-branch.true)))
]
  where
    longer : c.loop-next.path.items ≡ c.args.path.now.items ++ c.args.from ∷ []
    longer = c.loop-next.invariant.path ∙ c.in_ok-push.ensures.items

    next : Name
    next = slice_index_or c.as_slice-next-items.result.now c.loop-next.next-index (record { id = 0 })

    edge : HasEdge c.args.graph.now c.args.from next
    edge = edge-at c.args.graph.now c.args.from c.in-Some.node.now c.as_slice-next-items.result.now c.loop-next.next-index (sym c.in-Some.ensures.value) c.as_slice-next-items.ensures (record { id = 0 })
        c.loop-next-test.true

pub loop-next-preserved : goal.loop-next-preserved
loop-next-preserved t c = record {
  path = c.in_ok-lead.ensures.back (ap Ok c.if-branch.false) ∙ c.loop-next.invariant.path;
  searching = IsSearching-trans c.args.graph.now c.args.goal c.insert.new.self c.loop-next.seen c.lead.new.seen c.loop-next.invariant.searching
      (c.in_ok-lead.ensures.searched (ap Ok c.if-branch.false)).1;
  passed = passed_more c.args.graph.now c.args.goal c.loop-next.seen c.lead.new.seen c.as_slice-next-items.result.now c.loop-next.next-index (record { id = 0 })
      c.loop-next-test.true c.loop-next.invariant.passed
      (λ e. let q : true ≡ false = sym (same_name-one (slice_index_or c.as_slice-next-items.result.now c.loop-next.next-index (record { id = 0 })) c.args.goal e) ∙ sym c.eq.ensures ∙ c.if-eq.false in cc)
      (c.in_ok-lead.ensures.searched (ap Ok c.if-branch.false));
}

pub returns-clause-searched : goal.returns-clause-searched
returns-clause-searched t c = λ _.
    IsSearched-node c.args.graph.now c.args.goal c.args.from c.args.seen.now c.insert.new.self c.loop-next.seen
    (rw c.if-not-branch.false at c.in_ok-insert.ensures.len) c.in_ok-insert.ensures.updates.0 c.loop-next.invariant.searching c.in-Some.node.now
    c.as_slice-next-items.result.now c.loop-next.next-index (sym c.in-Some.ensures.value) c.as_slice-next-items.ensures c.loop-next-test.false
    c.loop-next.invariant.passed
