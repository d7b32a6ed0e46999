use Rattle.std.proofs.Common.{◌≡◌, None, take}
use Rattle.poets_table.specs.Pieces.{joined, pieces_of}
use Rattle.std.specs.List.{last_or}
use Rattle.poets_table.proofs.events.last_in.Given as goal

abbrev pub invariant-loop-piece : goal.invariant-loop-piece
invariant-loop-piece l = l.last ≡ last_or None (joined (take l.piece-index (pieces_of l.pieces)))
