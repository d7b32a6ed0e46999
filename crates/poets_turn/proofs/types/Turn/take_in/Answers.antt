use Rattle.std.proofs.Common.{arith, [], ◌∙◌, ap, subst}
use mathlib.Core.List.{IsPrefix}
use Rattle.poets_turn.specs.declared.view.View.{View}
use Rattle.poets_turn.specs.code.Turnstile.{longer}
use Rattle.poets_turn.proofs.Seats.{clerk_taken}
use Rattle.poets_turn.proofs.Steps.{settles}
use Rattle.poets_turn.proofs.Ending.{knows_old, knows_new}
use Rattle.poets_turn.proofs.types.Turn.take_in.Goals as goal

pub join_seat-requires : goal.join_seat-requires
join_seat-requires g c = let two = c.args.self.now.sized.0 in let w = c.args.clerk in let n = w.numbered in let n₀ = n.0 in let n₁ = n.1 in
    (c.requires.table, c.requires.clerk.table, w.idle.1, omega arith, clerk_taken g.M.Machine.history g.M.Machine.frame _ _ _ _ _ _ c.requires.idle.1 (omega arith) w.idle.0 c.requires.idle.2 w.idle.2)

pub load-requires : goal.load-requires
load-requires g c = let two = c.args.self.now.sized.0 in (c.join_seat.ensures.0 ∙ c.requires.table, omega arith, settles g.M.Machine.history g.M.Machine.frame _ _ _ _ _)

pub returns-clause-clerk : goal.returns-clause-clerk
returns-clause-clerk g c = let e = ap (λ m. m.0) c.join_seat.ensures.2 in let after = c.load.ensures.2 in
    knows_new c.args.seat.now.me.0 c.args.clerk.seat.me.0 c.load.new.seat.me.0
    (ap (λ m. m.0) after.0 ∙ ap (λ (y : View g.row.M-Call.Denot g.row.M-Frame.Denot). let z : View g.row.M-Call.Denot g.row.M-Frame.Denot = record y { front = longer y.front y.heard; heard = [] } in z) e)
    (subst (λ (y : View g.row.M-Call.Denot g.row.M-Frame.Denot). IsPrefix y.heard (longer y.front y.heard)) e after.2) c.args.clerk.number c.args.clerk.numbered.0

pub returns-clause-others : goal.returns-clause-others
returns-clause-others g c = let e = ap (λ m. m.0) c.join_seat.ensures.2 in let after = c.load.ensures.2 in
    knows_old c.args.seat.now.me.0 c.args.clerk.seat.me.0 c.load.new.seat.me.0
    (ap (λ m. m.0) after.0 ∙ ap (λ (y : View g.row.M-Call.Denot g.row.M-Frame.Denot). let z : View g.row.M-Call.Denot g.row.M-Frame.Denot = record y { front = longer y.front y.heard; heard = [] } in z) e)
    (subst (λ (y : View g.row.M-Call.Denot g.row.M-Frame.Denot). IsPrefix y.front (longer y.front y.heard)) e after.1)
