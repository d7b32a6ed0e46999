use Rattle.std.proofs.Common.{◌≡◌, ◌++◌, take}
use Rattle.poets_engine.proofs.accounts.add_piece.Given as goal

abbrev pub invariant-loop-event : goal.invariant-loop-event
invariant-loop-event l = l.list.items ≡ l.initial.list.items ++ take l.event-index l.piece
