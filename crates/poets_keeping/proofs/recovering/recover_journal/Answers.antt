use Rattle.std.proofs.Common.{ap, rules}
use Rattle.poets_command.specs.Calls.{history_of}
use Rattle.poets_session.specs.declared.form.Form.TheVariants as F
use Rattle.poets_writing.specs.Writing.{stream}
use Rattle.poets_keeping.specs.code.Ended.{WasRead}
use Rattle.poets_keeping.proofs.Recovered.{recovering_read, recovering_unread}
use Rattle.poets_keeping.proofs.Untouched.{time_stands}
use Rattle.poets_keeping.proofs.recovering.recover_journal.Goals as goal

pub recover_session-requires : goal.recover_session-requires
recover_session-requires g c =
    let opened = c.in-Ok.ensures.session in
    let read : WasRead F.Book c.in-Ok.session = record { text = opened.1.text; short = opened.1.gave.short; holds = (opened.0, opened.1.session, opened.2) } in
    search (rules, read)

pub returns-in-Ok-clause-ends : goal.returns-in-Ok-clause-ends
returns-in-Ok-clause-ends g c =
    recovering_read g.D.Disk.seen g.D.Disk.faults _ _ _ _ c.args.disk c.recover_session.result.disk c.in-Ok.session _
    (ap (λ k. stream (g.K.Sink.held k) (g.K.Sink.faults k)) c.in-Ok.ensures.unwritten) c.in-Ok.ensures.session c.recover_session.ensures.started c.recover_session.ensures.recovers

pub returns-in-Ok-clause-time : goal.returns-in-Ok-clause-time
returns-in-Ok-clause-time g c = c.recover_session.ensures.started.time

pub returns-in-Err-clause-ends : goal.returns-in-Err-clause-ends
returns-in-Err-clause-ends g c =
    recovering_unread g.D.Disk.seen g.D.Disk.faults _ _ _ _ c.args.disk c.unstored.result.disk c.unstored.result.status c.in-Err.outcome.status c.unstored.result.stored _ (history_of c.in-Err.outcome.history.items)
    c.unstored.ensures.status (ap (λ l. history_of l.items) c.unstored.ensures.history) c.unstored.ensures.stored c.unstored.ensures.disk c.in-Err.ensures.without

pub returns-in-Err-clause-time : goal.returns-in-Err-clause-time
returns-in-Err-clause-time g c = time_stands g.D.Disk.seen c.args.disk c.unstored.result.disk c.unstored.ensures.disk
