use Rattle.std.proofs.Common.{◌≡◌, length, take}
use Rattle.poets_table.specs.Pieces.{joined, pieces_of}
use Rattle.poets_table.proofs.events.count_in.Given as goal

abbrev pub invariant-loop-piece : goal.invariant-loop-piece
invariant-loop-piece l = l.count ≡ length (joined (take l.piece-index (pieces_of l.pieces)))
