use Rattle.std.proofs.Common.{arith}
use Rattle.poets_table.specs.Pieces.{pieces_of}
use Rattle.poets_table.proofs.Pieces.{joined-short, length-pieces_of}
use Rattle.poets_table.proofs.events.Events.begin_piece.Goals as goal

pub overflow_add-ahead : goal.overflow_add-ahead
overflow_add-ahead c =
    let sealed = c.self.inside.sealed.items in
    let most = joined-short (pieces_of sealed) c.self.invariant.0.1 in
    let count = length-pieces_of sealed in
    let few = c.self.invariant.0.0 in
    let ahead = c.self.invariant.1 in
    let short = c.self.invariant.2 in
    let last = c.len-2.ensures in
    omega (arith, most, count, few, ahead, short, last)
