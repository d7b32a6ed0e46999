use Rattle.std.proofs.Common.{◌≡◌, true, false, ◌∙◌, sym, subst}
use Rattle.std.proofs.lemmas.Result.{IfOk-weaker}
use Rattle.poets_guard.specs.code.Graph.{HasEdge}
use Rattle.poets_guard.specs.FirstCycle.{IsFirstOf, LiesOnCycle}
use Rattle.poets_guard.specs.code.Searched.{HasNodesOf}
use Rattle.poets_guard.proofs.Finding.{names_of, IsFirstOf-found, All-names, not_none}
use Rattle.poets_guard.proofs.cycles.first_cycle.Goals as goal

pub cycle_from-requires : goal.cycle_from-requires
cycle_from-requires c = (c.in_ok-on_cycles.ensures c.template-item.result.name).0 (sym c.contains.ensures ∙ c.if-contains.true)

pub returns-then-contains : goal.returns-then-contains
returns-then-contains c =
    IfOk-weaker c.cycle_from.result _ (λ cycle. IsFirstOf (HasEdge c.args.graph.now) (names_of c.args.book.now.templates.items) cycle.items)
    (λ cycle h. subst (λ ts. IsFirstOf (HasEdge c.args.graph.now) (names_of ts) cycle.items) c.as_slice-template-items.ensures
    (IsFirstOf-found c.args.graph.now c.as_slice-template-items.result.now c.loop-template.template-index c.template-item.result
    (record { within = c.loop-template-test.true; is = c.template-item.is }) cycle.items h.0 h.1 h.2 c.loop-template.invariant))
    c.cycle_from.ensures

pub loop-template-preserved : goal.loop-template-preserved
loop-template-preserved c =
    All-names (λ f. ¬ (LiesOnCycle (HasEdge c.args.graph.now) f)) c.as_slice-template-items.result.now c.loop-template.template-index c.template-item.result c.loop-template-test.true c.template-item.is
    c.loop-template.invariant (λ l. let q : true ≡ false = sym ((c.in_ok-on_cycles.ensures c.template-item.result.name).1 l) ∙ sym c.contains.ensures ∙ c.if-contains.false in cc)

pub unreachable-requires : goal.unreachable-requires
unreachable-requires c =
    not_none c.args.graph.now c.as_slice-template-items.result.now c.loop-template.template-index c.loop-template-test.false c.requires.cycle
    (subst (HasNodesOf c.args.graph.now) (sym c.as_slice-template-items.ensures) c.requires.names) c.loop-template.invariant
