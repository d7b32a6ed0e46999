use Rattle.std.proofs.Common.{◌∙◌, ap}
use Rattle.poets_table.specs.Pieces.{pieces_of}
use Rattle.std.specs.List.{last_or}
use Rattle.poets_table.proofs.Pieces.{events_in, last-next, shared-at}
use Rattle.poets_table.proofs.events.last_in.Goals as goal

pub loop-piece-preserved : goal.loop-piece-preserved
loop-piece-preserved c =
    let p = c.piece-item.result in
    let ps = c.args.pieces.now in
    let at = shared-at ps c.loop-piece.piece-index p c.loop-piece-test.true c.piece-item.is in
    c.later-last.ensures ∙ ap (last_or c.loop-piece.last) (c.as_slice.ensures ∙ ap (λ l. l.items) c.deref.ensures)
    ∙ last-next (pieces_of ps) c.loop-piece.piece-index (events_in p) c.loop-piece.last at c.loop-piece.invariant
