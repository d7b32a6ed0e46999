use Rattle.std.proofs.lemmas.List.{take_all}
use Rattle.poets_types.proofs.Calls.{typed_more}
use Rattle.poets_types.proofs.Demanded.{call_fault}
use Rattle.poets_types.proofs.command.check_calls.Goals as goal

pub loop-place-preserved : goal.loop-place-preserved
loop-place-preserved c =
    let answer = rw (c.in_ok-index.ensures.book, c.in_ok-index.ensures.reports, c.deref.ensures) at c.check_command.ensures in
    typed_more c.args.book.now c.args.reports.now c.args.calls.now c.loop-place.place c.index-calls-place.result c.check_command.result c.in_default.field-0
    c.loop-place-test.true c.index-calls-place.is answer c.in_default.is c.loop-place.invariant

pub returns-clause-passes : goal.returns-clause-passes
returns-clause-passes c =
    let all = take_all c.loop-place.place c.args.calls.now c.loop-place-test.false in
    rw all at c.loop-place.invariant

pub returns-in-Err-clause-fault : goal.returns-in-Err-clause-fault
returns-in-Err-clause-fault c =
    let answer = rw (c.in_ok-index.ensures.book, c.in_ok-index.ensures.reports, c.deref.ensures) at c.check_command.ensures in
    call_fault c.args.book.now c.args.reports.now c.args.calls.now c.loop-place.place c.index-calls-place.result c.in-Err.cause
    c.loop-place-test.true c.index-calls-place.is c.check_command.result answer c.in-Err.is c.loop-place.invariant
