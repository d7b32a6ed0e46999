use Rattle.std.proofs.Common.{refl}
use Rattle.std.specs.Arc.{arc_value}
use Rattle.poets_command.specs.declared.call.Entry.{Entry}
use Rattle.poets_making.proofs.Noting.{AreNoted-entry, if_ok}
use Rattle.poets_making.proofs.work.call.Goals as goal

pub returns-clause-noted : goal.returns-clause-noted
returns-clause-noted g c =
    let entry : Entry = record { clerk = c.args.clerk; command = c.in_ok-command.command; reply = c.in_ok-reply.reply } in
    if_ok c.push.result (λ e. AreNoted-entry c.args.engine.now c.args.entries.now.items c.requires.noted (arc_value c.args.command.now) c.in_ok-kept.kept
    c.in_ok-kept.ensures.owes c.apply.new.self c.args.clerk c.push.new.list.items entry c.in_ok-reply.ensures refl c.in_ok-command.ensures c.in_ok-kept.ensures.calls c.apply.ensures.frame e)
    c.push.ensures.items
