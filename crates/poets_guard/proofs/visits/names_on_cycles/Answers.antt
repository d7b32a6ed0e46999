use Rattle.std.proofs.Common.{arith, subst, take, ◌∙◌, All}
use Rattle.std.proofs.lemmas.List.{take_all}
use Rattle.std.proofs.lemmas.List.Elements.{All-nil, All-weaker}
use Rattle.poets_guard.specs.code.Visited.{IsFrom}
use Rattle.poets_guard.specs.declared.visits.Visits.{Visits}
use Rattle.poets_guard.proofs.Finding.{names_of, All-names, among-all}
use Rattle.poets_guard.proofs.Visiting.{AreOpened-self, AreRight-empty, AllLead-any, AreOpened-more, IsFrom-later, IsFrom-less, on_cycles-exact}
use Rattle.poets_guard.proofs.visits.names_on_cycles.Goals as goal

pub loop-template-init : goal.loop-template-init
loop-template-init c = record {
  opened = AreOpened-self c.args.graph.now empty 0 (AreRight-empty c.args.graph.now empty c.new.ensures.empty c.new-3.ensures.empty);
  seen = All-nil (IsFrom c.args.graph.now empty 0);
}
  where
    empty : Visits
    empty = record { heights = c.new.result; stack = c.new-2.result; on_cycles = c.new-3.result }

pub visit-requires : goal.visit-requires
visit-requires c = record {
  right = c.loop-template.invariant.opened.right;
  lead = AllLead-any c.args.graph.now _ c.loop-template.visits c.new-2.ensures.items c.loop-template.invariant.opened c.template-item.result.name;
}

pub loop-template-preserved : goal.loop-template-preserved
loop-template-preserved c = record {
  opened = AreOpened-more c.args.graph.now _ c.loop-template.visits c.new-2.ensures.items c.loop-template.invariant.opened c.in_ok-visit.field-0 c.visit.new.self c.in_ok-visit.ensures.opened;
  seen = All-names (IsFrom c.args.graph.now c.visit.new.self 0) c.as_slice-template-items.result.now c.loop-template.template-index c.template-item.result c.loop-template-test.true c.template-item.is
      (All-weaker (IsFrom c.args.graph.now c.loop-template.visits 0) (IsFrom c.args.graph.now c.visit.new.self 0)
      (λ f h. IsFrom-later c.args.graph.now c.loop-template.visits c.visit.new.self 0 0 f c.in_ok-visit.ensures.opened.grown (omega arith) h)
      (names_of (take c.loop-template.template-index c.as_slice-template-items.result.now)) c.loop-template.invariant.seen)
      (IsFrom-less c.args.graph.now c.visit.new.self c.in_ok-visit.field-0 0 c.template-item.result.name (omega arith) c.in_ok-visit.ensures.here);
}

pub returns : goal.returns
returns c = λ f. on_cycles-exact c.args.graph.now _ c.loop-template.visits c.new-2.ensures.items c.loop-template.invariant.opened f
    (λ node. among-all (IsFrom c.args.graph.now c.loop-template.visits 0) (names_of c.args.book.now.templates.items)
    (subst (λ ts. All (IsFrom c.args.graph.now c.loop-template.visits 0) (names_of ts)) (take_all c.loop-template.template-index c.as_slice-template-items.result.now c.loop-template-test.false ∙ c.as_slice-template-items.ensures)
    c.loop-template.invariant.seen) f (c.requires f node))
