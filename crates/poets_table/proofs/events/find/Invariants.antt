use Rattle.std.proofs.Common.{◌≡◌, ◌+◌, length, take}
use Rattle.poets_table.specs.Pieces.{joined, pieces_of}
use Rattle.poets_table.proofs.events.find.Given as goal

abbrev pub invariant-loop-number : goal.invariant-loop-number
invariant-loop-number l = l.place ≡ length (joined (take l.number (pieces_of l.pieces))) + l.left
