use Rattle.std.proofs.Common.{◌<◌, ◌++◌, ◌∷◌, [], arith, length, subst, sym}
use Rattle.poets_table.specs.Pieces.{joined, pieces_of}
use Rattle.poets_table.specs.code.Rows.{IsWithout}
use Rattle.poets_table.proofs.Pieces.{without-ahead, without-last, without-sealed, without-short}
use Rattle.poets_table.proofs.events.Events.remove.Goals as goal

pub invariant_of-self-then-place-self : goal.invariant_of-self-then-place-self
invariant_of-self-then-place-self c =
    let place = c.args.place in
    let old = pieces_of c.self.inside.sealed.items in
    let new = pieces_of c.remove_sealed.new.sealed.items in
    let w = c.in_ok-remove_sealed.ensures.ok in
    let ahead = c.self.invariant.1 in
    let within = c.if-place-self.true in
    let fewer = without-ahead place old new w (omega (arith, ahead, within)) in
    (without-short place old new w c.self.invariant.0, omega (arith, fewer, ahead), c.self.invariant.2)

pub returns-then-place-self : goal.returns-then-place-self
returns-then-place-self c =
    let place = c.args.place in
    let old = pieces_of c.self.inside.sealed.items in
    let new = pieces_of c.remove_sealed.new.sealed.items in
    let last = c.self.inside.last.items in
    subst (λ e. IsWithout place e.pieces (new ++ last ∷ [])) c.self.view_is (without-sealed place old new c.in_ok-remove_sealed.ensures.ok last)

pub returns : goal.returns
returns c =
    let place = c.args.place in
    let ahead = c.self.inside.ahead in
    let sealed = pieces_of c.self.inside.sealed.items in
    let last = c.self.inside.last.items in
    let within = subst (λ e. place < length (joined e.pieces)) (sym c.self.view_is) c.requires in
    let w = without-last place sealed last ahead c.self.invariant.1 c.if-place-self.false within in
    subst (λ e. IsWithout place e.pieces (sealed ++ c.remove-event.new.self.items ∷ [])) c.self.view_is
    (subst (λ l. IsWithout place (sealed ++ last ∷ []) (sealed ++ l ∷ [])) (sym c.remove-event.ensures.items) w)
