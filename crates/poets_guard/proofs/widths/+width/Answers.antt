use Rattle.std.proofs.Common.{◌≡◌, arith, sym, ap, true}
use Rattle.std.specs.Prelude.{slice_index_or, is_some}
use Rattle.poets_value.specs.declared.value.Name.{Name}
use Rattle.poets_guard.specs.code.Graph.{HasEdge}
use Rattle.poets_guard.specs.code.Walks.{HasWidth}
use Rattle.poets_guard.proofs.Walking.{met_again, few, AllReach-next, HasWidth-none, HasWidth-node, HaveWidths-more, HaveSameNames-removed, HaveSameNames-trans, edge-at, ends_more, sum_more}
use Rattle.poets_guard.proofs.widths.+width.Goals as goal

pub returns-in-Some-clause-width : goal.returns-in-Some-clause-width
returns-in-Some-clause-width t c = c.requires.widths c.args.name c.in-Some.known.now (sym c.in-Some.ensures.value)

pub returns-in_default-get-clause-width : goal.returns-in_default-get-clause-width
returns-in_default-get-clause-width t c = HasWidth-none c.args.graph.now c.args.name (sym c.in_default-get.ensures.value)

pub returns-then-not-branch-clause-cycle : goal.returns-then-not-branch-clause-cycle
returns-then-not-branch-clause-cycle t c = λ _.
    met_again c.args.graph.now c.args.path.now c.args.name c.in_ok-insert.field-0 c.requires.path c.in_ok-insert.ensures.added c.if-not-branch.true

pub width-requires : goal.width-requires
width-requires t c = (
  (let m = c.decreases in
      let f = few c.args.graph.now c.args.path.now c.insert.new.self c.args.name c.in-Some-get.node.now c.requires.path c.in_ok-insert.ensures.updates.0
      c.in_ok-insert.ensures.ordered (sym c.in-Some-get.ensures.value) in
      let l = rw c.if-not-branch.false at c.in_ok-insert.ensures.len in
      let s = c.loop-next.invariant.path.as_many in omega (arith, m, f, l, s)),
  (
    AllReach-next c.args.graph.now c.args.path.now c.insert.new.self c.loop-next.path c.args.name next c.requires.path c.in_ok-insert.ensures.updates.0
        c.loop-next.invariant.path edge,
    c.loop-next.invariant.widths,
  ),
)
  where
    next : Name
    next = slice_index_or c.as_slice-next-items.result.now c.loop-next.next-index (record { id = 0 })

    edge : HasEdge c.args.graph.now c.args.name next
    edge = edge-at c.args.graph.now c.args.name c.in-Some-get.node.now c.as_slice-next-items.result.now c.loop-next.next-index (sym c.in-Some-get.ensures.value) c.as_slice-next-items.ensures (record { id = 0 })
        c.loop-next-test.true

pub loop-next-preserved : goal.loop-next-preserved
loop-next-preserved t c = record {
  path = HaveSameNames-trans c.insert.new.self c.loop-next.path c.width.new.path c.loop-next.invariant.path (c.in_ok-more.ensures.path found);
  widths = c.in_ok-more.ensures.widths found;
  ends = ends_more c.args.graph.now c.as_slice-next-items.result.now c.loop-next.next-index (record { id = 0 }) c.loop-next-test.true c.loop-next.invariant.ends here.0;
  sum = sum_more c.args.graph.now c.as_slice-next-items.result.now c.loop-next.next-index (record { id = 0 }) c.loop-next.exposed c.in-Some-2.more c.add-exposed.result
      c.loop-next-test.true c.loop-next.invariant.sum here.1 c.add-exposed.ensures;
}
  where
    found : is_some c.in_ok-more.field-0 ≡ true
    found = ap is_some c.in-Some-2.is

    here : HasWidth c.args.graph.now (slice_index_or c.as_slice-next-items.result.now c.loop-next.next-index (record { id = 0 })) c.in-Some-2.more
    here = rw c.in-Some-2.is at c.in_ok-more.ensures.width

pub returns-clause-width : goal.returns-clause-width
returns-clause-width t c =
    HasWidth-node c.args.graph.now c.args.name c.in-Some-get.node.now c.loop-next.exposed c.add-wide.result c.as_slice-next-items.result.now c.loop-next.next-index
    (sym c.in-Some-get.ensures.value) c.as_slice-next-items.ensures c.loop-next-test.false c.loop-next.invariant.ends c.loop-next.invariant.sum c.add-wide.ensures

pub returns-clause-path : goal.returns-clause-path
returns-clause-path t c = λ _.
    HaveSameNames-removed c.args.path.now c.insert.new.self c.loop-next.path c.remove.new.self c.args.name c.in_ok-insert.field-0 c.remove.result
    c.in_ok-insert.ensures.added c.if-not-branch.false c.in_ok-insert.ensures.updates.0 (rw c.if-not-branch.false at c.in_ok-insert.ensures.len)
    c.loop-next.invariant.path c.remove.ensures.test c.remove.ensures.updates.0 c.remove.ensures.len

pub returns-clause-widths : goal.returns-clause-widths
returns-clause-widths t c = λ _.
    HaveWidths-more c.args.graph.now c.loop-next.widths c.insert-2.new.self c.args.name c.add-wide.result c.loop-next.invariant.widths (returns-clause-width t c)
    c.in_ok-insert-2.ensures.updates.0
