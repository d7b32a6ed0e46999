use Rattle.std.proofs.Common.{◌+◌, length, ap}
use Rattle.std.specs.BTreeMap.{get}
use Rattle.poets_value.specs.Names.{name_cmp}
use Rattle.poets_guard.proofs.Places.{StandsAt-same}
use Rattle.poets_guard.proofs.Concluding.{IsBuilt-none, IsBuilt-more}
use Rattle.poets_guard.proofs.endings.rules_of_book.Goals as goal

pub loop-template-preserved : goal.loop-template-preserved
loop-template-preserved c =
    IsBuilt-more c.args.book.now c.requires.checked c.args.granted (get name_cmp c.args.facts.now) c.requires.facts c.loop-template.template-index c.template-item.result
    c.loop-template.rules c.conclude_template.new.self
    (StandsAt-same c.as_slice-templates.result.now c.args.book.now.templates.items c.loop-template.template-index c.template-item.result
    c.as_slice-templates.ensures c.loop-template-test.true c.template-item.is)
    c.in_ok-conclude_template.ensures c.loop-template.invariant

pub loop-template-init : goal.loop-template-init
loop-template-init c =
    IsBuilt-none c.args.book.now c.requires.checked c.args.granted (get name_cmp c.args.facts.now) c.requires.facts _ (ap (λ ts. length ts + 1) c.as_slice-templates.ensures) c.new.ensures.items
