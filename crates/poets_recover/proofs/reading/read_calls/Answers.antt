use Rattle.std.proofs.Common.{inl, inr, Err, length, ◌-◌, ap, ◌∙◌, arith}
use Rattle.poets_session.specs.Sessions.{calls_in}
use Rattle.poets_recover.specs.Stored.{bytes_in}
use Rattle.poets_recover.proofs.Judging.{none-said, more-said, said-stopped}
use Rattle.poets_recover.proofs.reading.read_calls.Goals as goal

pub loop-text-init : goal.loop-text-init
loop-text-init c = none-said c.args.names.now (bytes_in c.args.texts.now) (calls_in c.new-calls.result.items) (ap calls_in c.new-calls.ensures)

pub returns-then-room-text-clause-read : goal.returns-then-room-text-clause-read
returns-then-room-text-clause-read c =
    let l = c.loop-text in
    said-stopped c.args.names.now c.args.texts.now l.text-index c.text-item.result c.loop-text-test.true c.text-item.is l.room l.calls.items l.names l.invariant
    l.names (inl (rw c.as_slice-text.ensures at c.if-room-text.true))

pub returns-in-Err-Shape-clause-read : goal.returns-in-Err-Shape-clause-read
returns-in-Err-Shape-clause-read c =
    let l = c.loop-text in let none = c.read_call.ensures.none (c.in-Err-Shape.is ∙ ap Err c.in-Err-Shape.field-0-is) in
    said-stopped c.args.names.now c.args.texts.now l.text-index c.text-item.result c.loop-text-test.true c.text-item.is l.room l.calls.items l.names l.invariant
    c.read_call.new.names (inr (rw c.as_slice-text.ensures at none))

pub loop-text-preserved : goal.loop-text-preserved
loop-text-preserved c =
    let l = c.loop-text in let text = c.text-item.result in let size = ap length c.as_slice-text.ensures in
    more-said c.args.names.now c.args.texts.now l.text-index text c.loop-text-test.true c.text-item.is l.room l.calls.items l.names l.invariant
    (l.room - length c.as_slice-text.result.now) c.in-Ok.call c.push.new.list.items c.read_call.new.names (omega (arith, size, c.if-room-text.false)) (rw c.as_slice-text.ensures at c.in-Ok.ensures.said)
    c.read_call.ensures.names (rw c.as_slice-text.ensures at c.read_call.ensures.few) c.in_ok-push-in-Ok.ensures.items
