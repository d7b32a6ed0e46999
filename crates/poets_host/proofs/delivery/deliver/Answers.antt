use borrow.Enum.Total.{values_d}
use Rattle.std.proofs.Common.{◌≡◌, ◌∙◌, subst, sym}
use Rattle.poets_command.specs.Calls.{reply_of}
use Rattle.poets_history.specs.Ledger.{is_accepted}
use Rattle.poets_engine.specs.contracts.kept.Body.{enum}
use Rattle.poets_command.specs.declared.call.Command.TheVariants as C
use Rattle.poets_host.proofs.Following.{call_more}
use Rattle.poets_host.proofs.Recording.{delivery_recorded, delivery_refused, no_delivery}
use Rattle.poets_host.proofs.delivery.deliver.Goals as goal

pub unreachable-requires : goal.unreachable-requires
unreachable-requires g c =
    no_delivery c.args.contract c.args.event c.in_ok-command.command c.in_ok-kept.kept _ c.args.engine.now c.in_ok-command.ensures.command c.in_ok-kept.ensures.owes c.in-Folio.is

pub returns-clause-call : goal.returns-clause-call
returns-clause-call g c =
    call_more c.args.clerk c.in_ok-command.command (C.Transmit c.args.contract c.args.event) c.args.engine.now c.apply.new.self c.in_ok-kept.ensures.calls c.in_ok-command.ensures.command

pub returns-clause-recorded : goal.returns-clause-recorded
returns-clause-recorded g c = λ accepted.
    let told = subst (λ b. c.is_accepted.result ≡ is_accepted (reply_of (values_d enum 0 (c.in-Done.reply, tt {0}) b).0)) c.in-Done.is c.is_accepted.ensures in
    delivery_recorded c.args.clerk c.args.contract c.args.event c.in_ok-command.command c.in_ok-kept.kept c.in-Done.reply c.args.engine.now c.apply.new.self
    c.in_ok-command.ensures.command c.in_ok-kept.ensures.owes c.in-Done.is c.in_ok-kept.ensures.calls c.apply.ensures.frame
    c.history-before.ensures.legal c.history-after.ensures.legal (sym told ∙ accepted)

pub returns-clause-refused : goal.returns-clause-refused
returns-clause-refused g c = λ declined.
    let told = subst (λ b. c.is_accepted.result ≡ is_accepted (reply_of (values_d enum 0 (c.in-Done.reply, tt {0}) b).0)) c.in-Done.is c.is_accepted.ensures in
    delivery_refused c.args.clerk c.args.contract c.args.event c.in_ok-command.command c.in_ok-kept.kept c.in-Done.reply c.args.engine.now c.apply.new.self
    c.in_ok-command.ensures.command c.in_ok-kept.ensures.owes c.in-Done.is c.in_ok-kept.ensures.calls c.apply.ensures.frame
    c.in_ok-kept.ensures.refused (sym told ∙ declined)
