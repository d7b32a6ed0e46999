use Rattle.std.proofs.Common.{◌≡◌, ap, ◌∙◌, true}
use Rattle.std.specs.Prelude.{is_some}
use Rattle.std.specs.BTreeSet.{contains}
use Rattle.poets_value.specs.Names.{name_cmp}
use Rattle.poets_guard.specs.code.Marked.{IsMarked}
use Rattle.poets_guard.proofs.Finding.{AllZip-more}
use Rattle.poets_guard.proofs.widths.marks.Goals as goal

pub loop-template-preserved : goal.loop-template-preserved
loop-template-preserved c = record {
  path = λ f. (c.in_ok-wide.ensures.path found).same f ∙ c.loop-template.invariant.path f;
  widths = c.in_ok-wide.ensures.widths found;
  marks = AllZip-more (IsMarked c.args.graph.now (contains name_cmp c.args.nullable.now) (contains name_cmp c.args.hopeful.now)) c.as_slice-template-items.result.now
      c.loop-template.marks.items c.push.new.list.items c.loop-template.template-index c.template-item.result
      (record { nullable = c.contains.result; hopeful = c.contains-in-loop-template.result; wide = c.in-Some.wide })
      c.loop-template-test.true c.template-item.is c.loop-template.invariant.marks
      (record { nullable = c.contains.ensures; hopeful = c.contains-in-loop-template.ensures; wide = rw c.in-Some.is at c.in_ok-wide.ensures.width })
      c.in_ok-push.ensures.items;
}
  where
    found : is_some c.in_ok-wide.field-0 ≡ true
    found = ap is_some c.in-Some.is
