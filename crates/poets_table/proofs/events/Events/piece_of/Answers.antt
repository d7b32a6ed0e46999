use Rattle.std.proofs.Common.{◌<◌, ◌≤◌, ◌++◌, ◌∷◌, [], ◌∙◌, length, subst, sym}
use Rattle.std.proofs.lemmas.List.Elements.{All-push}
use Rattle.poets_table.specs.Pieces.{IsPieceOf, joined, piece_length, pieces_of, starts_of}
use Rattle.poets_table.specs.code.Rows.{IsPlaceIn}
use Rattle.poets_table.proofs.Pieces.{length-pieces_of, piece-near, place-last, place-sealed}
use Rattle.poets_table.proofs.events.Events.piece_of.Goals as goal

pub returns-then-place-self : goal.returns-then-place-self
returns-then-place-self c =
    let place = c.args.place in
    let number = c.find.result.0 in
    let inside = c.find.result.1 in
    let sealed = pieces_of c.self.inside.sealed.items in
    let last = c.self.inside.last.items in
    let short = All-push (λ p. length p ≤ piece_length) sealed last c.self.invariant.0.1 c.self.invariant.2 in
    let h = subst (λ ps. IsPlaceIn (pieces_of ps) place number inside) c.as_slice.ensures.value c.find.ensures in
    subst (λ e. IsPieceOf place (starts_of e.pieces) number) c.self.view_is
    (piece-near place number inside (sealed ++ last ∷ []) (place-sealed place number inside sealed last h) short)

pub returns : goal.returns
returns c =
    let place = c.args.place in
    let ahead = c.self.inside.ahead in
    let sealed = pieces_of c.self.inside.sealed.items in
    let last = c.self.inside.last.items in
    let short = All-push (λ p. length p ≤ piece_length) sealed last c.self.invariant.0.1 c.self.invariant.2 in
    let within = subst (λ e. place < length (joined e.pieces)) (sym c.self.view_is) c.requires in
    let count = length-pieces_of c.self.inside.sealed.items ∙ sym c.self.inside.sealed.ok.0 ∙ sym c.len.ensures in
    subst (λ e. IsPieceOf place (starts_of e.pieces) c.len.result) c.self.view_is
    (subst (IsPieceOf place (starts_of (sealed ++ last ∷ []))) count
    (piece-near place (length sealed) _ (sealed ++ last ∷ []) (place-last place sealed last ahead c.self.invariant.1 c.if-place-self.false within) short))
