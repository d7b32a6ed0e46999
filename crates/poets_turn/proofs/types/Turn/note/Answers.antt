use Rattle.std.proofs.Common.{arith}
use Rattle.poets_turn.proofs.Seats.{note_cut}
use Rattle.poets_turn.proofs.types.Turn.note.Goals as goal

pub split_seat-seat-requires : goal.split_seat-seat-requires
split_seat-seat-requires g c = let two = c.args.self.now.sized.0 in (c.requires.of.table, omega arith, note_cut g.M.Machine.history g.M.Machine.frame _ _ _ _)
