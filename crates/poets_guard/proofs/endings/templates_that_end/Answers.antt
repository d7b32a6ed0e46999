use Rattle.std.proofs.Common.{◌≡◌, arith, length, ◌∙◌, ap, subst}
use Rattle.std.specs.Prelude.{◌||◌, if◌then◌else◌}
use Rattle.std.specs.BTreeMap.{get}
use Rattle.std.specs.BTreeSet.{contains}
use Rattle.poets_value.specs.Names.{name_cmp}
use Rattle.poets_expr.specs.Env.{same_name}
use Rattle.poets_guard.specs.code.Rules.{is_known}
use Rattle.poets_guard.specs.code.Facts.{says, IsTold}
use Rattle.poets_guard.proofs.Places.{StandsAt-same}
use Rattle.poets_guard.proofs.Concluding.{IsTold-more, IsExact-told}
use Rattle.poets_guard.proofs.endings.templates_that_end.Goals as goal

pub loop-template-preserved : goal.loop-template-preserved
loop-template-preserved c =
    IsTold-more c.args.book.now c.requires c.loop-template.template-index c.template-item.result
    (StandsAt-same c.as_slice-template-items.result.now c.args.book.now.templates.items c.loop-template.template-index c.template-item.result
    c.as_slice-template-items.ensures c.loop-template-test.true c.template-item.is)
    (says (is_known c.in_ok-known.known.items) (get name_cmp c.in_ok-facts.facts)) (contains name_cmp c.loop-template.ending) (contains name_cmp c.insert_if.new.names)
    (λ f. c.in_ok-insert_if.ensures f ∙ ap (λ test. if same_name c.template-item.result.name f then test || contains name_cmp c.loop-template.ending f else contains name_cmp c.loop-template.ending f)
    (c.may_end-test.ensures ∙ ap (λ known. says (is_known known) (get name_cmp c.in_ok-facts.facts) c.template-item.result.name) c.deref.ensures.value))
    c.loop-template.invariant

pub returns : goal.returns
returns c =
    let all : c.loop-template.template-index ≡ length c.args.book.now.templates.items =
    (let e = ap length c.as_slice-template-items.ensures in let l = c.loop-template-test.false in let m = c.loop-template.auto.template-index-end in omega (arith, e, l, m)) in
    IsExact-told c.args.book.now c.requires c.args.granted (get name_cmp c.in_ok-facts.facts) c.in_ok-facts.ensures c.in_ok-rules.rules c.in_ok-known.known.items
    (contains name_cmp c.loop-template.ending) c.in_ok-rules.ensures c.in_ok-known.ensures.given c.in_ok-known.ensures.closed c.in_ok-known.ensures.sound
    (subst (λ n. IsTold n c.args.book.now.templates.items (says (is_known c.in_ok-known.known.items) (get name_cmp c.in_ok-facts.facts)) (contains name_cmp c.loop-template.ending))
    all c.loop-template.invariant)
