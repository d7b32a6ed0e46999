use Rattle.std.proofs.Common.{ap, subst, rules}
use Rattle.poets_command.specs.Calls.{history_of}
use Rattle.poets_session.specs.declared.form.Form.TheVariants as F
use Rattle.poets_writing.specs.Writing.{stream}
use Rattle.poets_keeping.specs.code.Ended.{WasRead}
use Rattle.poets_keeping.specs.Keeping.{EndsKeeping, KeepsSession}
use Rattle.poets_keeping.proofs.Kept.{ends_unread}
use Rattle.poets_keeping.proofs.keeping.keep.Goals as goal

pub keep_session-requires-clause-read : goal.keep_session-requires-clause-read
keep_session-requires-clause-read g c = λ _ _.
    let opened = c.in-Ok.ensures.session in
    let read : WasRead F.Clerks c.in-Ok.session = record { text = opened.1.text; short = opened.1.gave.short; holds = (opened.0, opened.1.session, opened.2) } in
    search (rules, read)

pub returns-in-Ok-clause-ends : goal.returns-in-Ok-clause-ends
returns-in-Ok-clause-ends g c =
    let opened = c.in-Ok.ensures.session in
    let names = c.in-Ok.session.names in
    let result = c.keep_session.result in
    let held = g.K.Sink.held in
    let count = g.K.Sink.faults in
    EndsKeeping.Read opened.1
    (subst (λ k. KeepsSession g.D.Disk.seen g.D.Disk.faults names opened.0 (stream (held k) (count k)) (stream (held c.keep_session.new.sink) (count c.keep_session.new.sink)) c.args.disk result.disk result.status (history_of result.history.items) result.stored)
    c.in-Ok.ensures.unwritten (c.keep_session.ensures.keeps opened.0 (record { text = opened.1.text; is = opened.1.session; holds = opened.2 })))

pub returns-in-Err-clause-ends : goal.returns-in-Err-clause-ends
returns-in-Err-clause-ends g c =
    let outcome = c.in-Err.outcome in
    let result = c.unstored.result in
    ends_unread g.D.Disk.seen g.D.Disk.faults c.args.disk _ _ _ _ result.disk result.status outcome.status (history_of outcome.history.items) (history_of result.history.items) result.stored
    c.unstored.ensures.disk c.unstored.ensures.status (ap (λ l. history_of l.items) c.unstored.ensures.history) c.unstored.ensures.stored c.in-Err.ensures.without
