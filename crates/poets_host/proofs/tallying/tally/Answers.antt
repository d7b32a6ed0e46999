use borrow.Enum.Total.{values_d}
use Rattle.std.proofs.Common.{[], subst, sym}
use Rattle.poets_command.specs.Calls.{reply_of}
use Rattle.poets_command.specs.Plain.{Tally}
use Rattle.poets_engine.specs.contracts.kept.Body.{enum}
use Rattle.poets_host.specs.Calls.{IsReplyAfter}
use Rattle.poets_host.proofs.Recording.{no_tally, tally_asks, tally_keeps, tally_right}
use Rattle.poets_host.proofs.tallying.tally.Goals as goal

pub returns-in_err-kept-clause-asks : goal.returns-in_err-kept-clause-asks
returns-in_err-kept-clause-asks g c =
    tally_asks c.args.clerk c.args.report c.new-args.result c.in_ok-command.command c.args.engine.now c.in_ok-command.ensures.command c.new-args.ensures
    c.args.asks.now c.apply.new.asks c.history-before.ensures.legal c.apply.ensures.asks

pub unreachable-requires : goal.unreachable-requires
unreachable-requires g c =
    no_tally c.args.clerk c.args.report c.new-args.result c.in_ok-command.command c.args.engine.now c.in_ok-command.ensures.command c.new-args.ensures
    c.in_ok-kept.kept c.in_ok-kept.ensures.owes _ c.in-Folio.is

pub returns-clause-right : goal.returns-clause-right
returns-clause-right g c =
    subst (λ b. IsReplyAfter c.args.engine.now (Tally c.args.report []) (reply_of (values_d enum 0 (c.in-Done.reply, tt {0}) b).0)) (sym c.in-Done.is)
    (tally_right c.args.clerk c.args.report c.new-args.result c.in_ok-command.command c.args.engine.now c.in_ok-command.ensures.command c.new-args.ensures
    c.in_ok-kept.kept c.in_ok-kept.ensures.owes c.in-Done.reply c.in-Done.is)

pub returns-clause-same : goal.returns-clause-same
returns-clause-same g c =
    tally_keeps c.args.clerk c.args.report c.new-args.result c.in_ok-command.command c.args.engine.now c.in_ok-command.ensures.command c.new-args.ensures
    c.in_ok-kept.kept c.in_ok-kept.ensures.owes c.in-Done.reply c.apply.new.self c.in-Done.is c.in_ok-kept.ensures.calls c.apply.ensures.frame c.in_ok-kept.ensures.refused

pub returns-clause-asks : goal.returns-clause-asks
returns-clause-asks g c =
    tally_asks c.args.clerk c.args.report c.new-args.result c.in_ok-command.command c.args.engine.now c.in_ok-command.ensures.command c.new-args.ensures
    c.args.asks.now c.apply.new.asks c.history-before.ensures.legal c.apply.ensures.asks
