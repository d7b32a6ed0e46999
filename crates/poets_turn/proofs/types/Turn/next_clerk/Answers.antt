use Rattle.std.proofs.Common.{arith}
use Rattle.poets_turn.proofs.Seats.{clerk_added}
use Rattle.poets_turn.proofs.types.Turn.next_clerk.Goals as goal

pub split_seat-seat-requires : goal.split_seat-seat-requires
split_seat-seat-requires g c = let two = c.args.self.now.sized.0 in let n = c.requires.count.1 in let few = c.requires.count.2 in
    (c.requires.of.of.table, omega arith, clerk_added g.M.Machine.history g.M.Machine.frame _ _ _ _ _ c.requires.count.0 c.requires.of.of.setting (omega arith))
