use Rattle.std.proofs.Common.{subst}
use Rattle.poets_expr.specs.Env.{declared_of}
use Rattle.poets_live.specs.Watching.{AllBrought, Brought, HasRoomIn, IsSeen}
use Rattle.poets_live.proofs.Places.{first_and_last, second_and_last}
use Rattle.poets_live.proofs.watches.Watches.seen.Goals as goal

pub returns-clause-brought : goal.returns-clause-brought
returns-clause-brought g c =
    let d = declared_of c.args.decls.now.names in
    subst (λ w. AllBrought d c.args.event.now w.watches c.in_ok-moves.moves.items) c.self.view_is
    (first_and_last (IsSeen d c.args.event.now) (Brought d c.args.event.now) (λ s. s.watch) (λ x y z h. h.brought)
    c.self.inside.watches.items c.see_all.new.watches.items c.in_ok-moves.moves.items c.in_ok-moves.ensures.seen)

pub returns-clause-room : goal.returns-clause-room
returns-clause-room g c =
    second_and_last (IsSeen (declared_of c.args.decls.now.names) c.args.event.now) HasRoomIn (λ s. s.watch) (λ s. s.room) (λ x y z h. h.room)
    c.self.inside.watches.items c.see_all.new.watches.items c.in_ok-moves.moves.items c.in_ok-moves.ensures.seen
