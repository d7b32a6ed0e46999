use Rattle.std.proofs.Common.{map, subst}
use Rattle.poets_live.specs.Watching.{AllMoved, Moved}
use Rattle.poets_live.proofs.Following.{Took}
use Rattle.poets_live.proofs.Places.{last_between}
use Rattle.poets_live.proofs.watches.Watches.take.Goals as goal

pub returns : goal.returns
returns c =
    let new = map (λ s. s.watch) c.take_all.new.watches.items in
    subst (λ w. AllMoved w.watches c.args.seen new) c.self.view_is
    (subst (λ s. AllMoved (map (λ s. s.watch) c.self.inside.watches.items) s new) c.seen.view_is
    (last_between Took Moved (λ s. s.watch) (λ x y z h. h)
    c.self.inside.watches.items c.take_all.new.watches.items c.seen.inside.moves.items c.take_all.ensures))
