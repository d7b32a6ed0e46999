use Rattle.std.proofs.Common.{◌≡◌, take}
use Rattle.poets_table.specs.Pieces.{pieces_of}
use Rattle.poets_table.proofs.events.shared.Given as goal

abbrev pub invariant-loop-piece : goal.invariant-loop-piece
invariant-loop-piece l = pieces_of l.copies.items ≡ pieces_of (take l.piece-index l.pieces)
