use Rattle.std.proofs.Common.{◌≡◌, ◌∙◌, ap, arith, set, subst, sym}
use Rattle.std.specs.Prelude.{remove}
use Rattle.std.proofs.lemmas.List.{map-set}
use Rattle.std.proofs.lemmas.Option.{same_Some, slice_get_within}
use Rattle.poets_table.specs.Pieces.{pieces_of}
use Rattle.poets_table.specs.code.Rows.{IsPlaceIn}
use Rattle.poets_table.proofs.Pieces.{events_in, length-pieces_of, shared-at}
use Rattle.poets_table.proofs.events.remove_sealed.Goals as goal

pub returns-clause-ok : goal.returns-clause-ok
returns-clause-ok c =
    let items = c.args.sealed.now.items in
    let number = c.find-piece.result.0 in
    let inside = c.find-piece.result.1 in
    let h = subst (λ ps. IsPlaceIn (pieces_of ps) c.args.place number inside) c.as_slice.ensures.value c.find-piece.ensures in
    let below = slice_get_within (pieces_of items) number h.piece h.here in
    let count = length-pieces_of items in
    let at = shared-at items number c.index.result.now (omega (arith, below, count)) c.index.ensures in
    let same : h.piece ≡ events_in c.index.result.now = same_Some h.piece (events_in c.index.result.now) (sym h.here ∙ at) in
    let copy = c.in_ok-rest.ensures ∙ c.as_slice-2.ensures ∙ ap (λ l. l.items) c.deref.ensures ∙ sym same in
    let rest = ap (λ l. l.items) c.in-Ok.ensures.ok ∙ c.remove.ensures.items ∙ ap (λ es. remove es inside) copy in
    record {
      number = number;
      inside = inside;
      at = h;
      changed = map-set events_in items number c.in-Ok.rest ∙ ap (set (pieces_of items) number) rest;
    }
