use Rattle.std.proofs.Common.{arith, ◌∙◌}
use Rattle.poets_turn.proofs.Seats.{note_taken}
use Rattle.poets_turn.proofs.Steps.{settles}
use Rattle.poets_turn.proofs.types.Turn.hear.Goals as goal

pub join_seat-requires : goal.join_seat-requires
join_seat-requires g c = let two = c.args.self.now.sized.0 in
    (c.requires.of.table, c.requires.note.table, c.args.note.blank.1, omega arith, note_taken g.M.Machine.history g.M.Machine.frame _ _ _ _ _ _ c.args.note.blank.0 c.args.clerk.now.idle.2 c.args.note.blank.2)

pub load-requires : goal.load-requires
load-requires g c = let two = c.args.self.now.sized.0 in (c.join_seat.ensures.0 ∙ c.requires.of.table, omega arith, settles g.M.Machine.history g.M.Machine.frame _ _ _ _ _)
