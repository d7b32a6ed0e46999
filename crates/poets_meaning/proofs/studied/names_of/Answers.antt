use Rattle.std.proofs.Common.{◌∙◌}
use Rattle.poets_meaning.proofs.Found.{entered_more, entered_all}
use Rattle.poets_meaning.proofs.studied.names_of.Goals as goal

pub loop-template-preserved : goal.loop-template-preserved
loop-template-preserved c =
    entered_more c.args.templates.now c.loop-template.template-index c.template-item.result c.loop-template.names.keys c.insert.new.self.keys
    c.loop-template-test.true c.template-item.is c.loop-template.invariant c.in_ok-insert.ensures.keys

pub returns : goal.returns
returns c =
    c.loop-template.invariant ∙ entered_all c.args.templates.now c.loop-template.template-index c.loop-template-test.false c.requires
