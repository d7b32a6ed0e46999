use Rattle.std.proofs.Common.{◌∙◌, arith, sym, ap, subst}
use Rattle.std.specs.Prelude.{All}
use Rattle.poets_turn.specs.Settings.{OnlyClerks}
use Rattle.poets_turn.specs.Clerks.{IsClerkIn, number, front, calls, clerk_count}
use Rattle.poets_turn.proofs.Ending.{some_item, closing, machine_back, none_left}
use Rattle.poets_turn.proofs.types.Turn.close.Goals as goal

pub gather-seat-requires-clause-some : goal.gather-seat-requires-clause-some
gather-seat-requires-clause-some g c = let low = c.args.self.some_clerk in some_item (λ y. number y) c.args.clerks.items 1 (c.requires.all 1 (omega arith) (omega arith))

pub unreachable-requires : goal.unreachable-requires
unreachable-requires g c = let v = c.gather-seat.ensures in
    let r = closing (λ y. number y) (λ y. front y) (λ y. calls y) g.M.Machine.history g.M.Machine.frame _ _ _ _ _ _ c.args.clerks.items c.close_with-closed.ensures.values.2 v.idle.0 v.idle.1 v.knows c.requires.all in
    none_left _ _ r.0 c.take.ensures.value r.1 c.in_default.is

pub returns-clause-frame : goal.returns-clause-frame
returns-clause-frame g c = let v = c.gather-seat.ensures in
    let r = closing (λ y. number y) (λ y. front y) (λ y. calls y) g.M.Machine.history g.M.Machine.frame _ _ _ _ _ _ c.args.clerks.items c.close_with-closed.ensures.values.2 v.idle.0 v.idle.1 v.knows c.requires.all in
    let e = machine_back _ _ r.0 c.in-Some.machine c.take.ensures.value r.1 c.in-Some.is in
    ap g.M.Machine.frame (sym e) ∙ r.2

pub returns-clause-clerks : goal.returns-clause-clerks
returns-clause-clerks g c = let v = c.gather-seat.ensures in
    let r = closing (λ y. number y) (λ y. front y) (λ y. calls y) g.M.Machine.history g.M.Machine.frame _ _ _ _ _ _ c.args.clerks.items c.close_with-closed.ensures.values.2 v.idle.0 v.idle.1 v.knows c.requires.all in
    let e = machine_back _ _ r.0 c.in-Some.machine c.take.ensures.value r.1 c.in-Some.is in
    subst (λ (x : g.row.M.Denot). All (λ y. IsClerkIn (g.M.Machine.history x) (number y) (front y) (calls y)) c.args.clerks.items) e r.3

pub returns-clause-numbers : goal.returns-clause-numbers
returns-clause-numbers g c = let v = c.gather-seat.ensures in
    let r = closing (λ y. number y) (λ y. front y) (λ y. calls y) g.M.Machine.history g.M.Machine.frame _ _ _ _ _ _ c.args.clerks.items c.close_with-closed.ensures.values.2 v.idle.0 v.idle.1 v.knows c.requires.all in
    let e = machine_back _ _ r.0 c.in-Some.machine c.take.ensures.value r.1 c.in-Some.is in
    subst (λ (x : g.row.M.Denot). OnlyClerks (clerk_count c.args.self) (g.M.Machine.history x)) e r.4
