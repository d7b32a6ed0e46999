use Rattle.std.proofs.Common.{◌+◌, ◌-◌, ◌∙◌, ap, sym, arith, length, take}
use Rattle.poets_table.specs.Pieces.{joined, pieces_of}
use Rattle.poets_table.proofs.Pieces.{events_in, place-next, shared-at}
use Rattle.poets_table.proofs.events.find.Goals as goal

pub loop-number-preserved : goal.loop-number-preserved
loop-number-preserved c =
    let p = c.index-pieces-number.result in
    let ps = c.args.pieces.now in
    let i = c.loop-number.number in
    let at = shared-at ps i p c.loop-number-test.true c.index-pieces-number.is in
    let there = c.len.ensures ∙ ap (λ l. length l.items) c.deref.ensures in
    let len = c.len-left.ensures ∙ ap (λ l. length l.items) c.deref-in-loop-number.ensures in
    let far = c.if-left-len.false in
    place-next (pieces_of ps) i c.args.place c.loop-number.left (events_in p) at c.loop-number.invariant (omega (arith, far, there))
    ∙ ap (λ n. length (joined (take (i + 1) (pieces_of ps))) + (c.loop-number.left - n)) (sym len)
