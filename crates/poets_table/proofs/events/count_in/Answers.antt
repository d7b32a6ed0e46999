use Rattle.std.proofs.Common.{◌+◌, ◌∙◌, ap, arith, length}
use Rattle.poets_table.specs.Pieces.{pieces_of}
use Rattle.poets_table.proofs.Pieces.{count-fits, count-next, events_in, shared-at}
use Rattle.poets_table.proofs.events.count_in.Goals as goal

pub overflow_add-count : goal.overflow_add-count
overflow_add-count c =
    let p = c.piece-item.result in
    let ps = c.args.pieces.now in
    let at = shared-at ps c.loop-piece.piece-index p c.loop-piece-test.true c.piece-item.is in
    let len = c.len-count.ensures ∙ ap (λ l. length l.items) c.deref.ensures in
    let fits = count-fits (pieces_of ps) c.loop-piece.piece-index (events_in p) c.requires at in
    let so_far = c.loop-piece.invariant in
    omega (arith, fits, so_far, len)

pub loop-piece-preserved : goal.loop-piece-preserved
loop-piece-preserved c =
    let p = c.piece-item.result in
    let ps = c.args.pieces.now in
    let at = shared-at ps c.loop-piece.piece-index p c.loop-piece-test.true c.piece-item.is in
    let len = c.len-count.ensures ∙ ap (λ l. length l.items) c.deref.ensures in
    ap (λ n. c.loop-piece.count + n) len ∙ count-next (pieces_of ps) c.loop-piece.piece-index c.loop-piece.count (events_in p) at c.loop-piece.invariant
