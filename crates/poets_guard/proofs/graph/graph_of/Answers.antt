use Rattle.std.proofs.Common.{refl}
use Rattle.std.specs.BTreeMap.{get}
use Rattle.std.specs.BTreeSet.{contains}
use Rattle.poets_value.specs.Names.{name_cmp}
use Rattle.poets_guard.specs.code.Graph.{held, holding}
use Rattle.poets_guard.proofs.Places.{StandsAt-same, template_in-entry}
use Rattle.poets_guard.proofs.graph.graph_of.Goals as goal

pub loop-template-preserved : goal.loop-template-preserved
loop-template-preserved c =
    template_in-entry c.args.book.now c.requires held (holding (contains name_cmp c.args.nullable.now)) c.loop-template.template-index c.template-item.result
    (StandsAt-same c.as_slice-template-items.result.now c.args.book.now.templates.items c.loop-template.template-index c.template-item.result
    c.as_slice-template-items.ensures c.loop-template-test.true c.template-item.is)
    (get name_cmp c.loop-template.graph) (get name_cmp c.insert.new.self) c.in_ok-node.node (rw (c.in_ok-node.ensures.own, c.in_ok-node.ensures.exposed) refl)
    c.in_ok-insert.ensures.updates.0 c.loop-template.invariant
