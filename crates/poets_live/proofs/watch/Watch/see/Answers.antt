use Rattle.std.proofs.Common.{subst}
use Rattle.poets_expr.specs.Env.{declared_of}
use Rattle.poets_live.specs.declared.watch.Move.TheVariants as M
use Rattle.poets_live.specs.Watching.{Brought, state_of}
use Rattle.poets_live.proofs.Following.{change_brought}
use Rattle.poets_live.proofs.watch.Watch.see.Goals as goal

pub returns-clause-brings : goal.returns-clause-brings
returns-clause-brings g c =
    let d = declared_of c.args.decls.now.names in
    let s = state_of c.self.inside.report c.self.inside.args.items c.self.inside.course in
    subst (λ s. Brought d c.args.event.now s.watch (M.More c.in_ok-change.change)) c.self.view_is
    (change_brought d c.args.event.now s.watch c.in_ok-change.change
    (λ events new h k. c.in_ok-change.ensures.brings c.self.inside.args.items events new
    (record { under = c.self.invariant.0; starts = h.begun; answers = h.answers }) k))
