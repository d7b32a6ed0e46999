use Rattle.std.proofs.Common.{◌≡◌, ◌-◌, ◌∙◌, Some, None, ap, length, slice_get, subst}
use Rattle.poets_table.specs.Pieces.{joined, pieces_of}
use Rattle.std.specs.List.{last_or}
use Rattle.poets_table.proofs.Pieces.{last-before, last-there}
use Rattle.poets_table.proofs.events.Events.last.Goals as goal

pub returns-in-Some : goal.returns-in-Some
returns-in-Some c =
    let here = subst (λ xs. Some c.in-Some.event.now ≡ slice_get xs (length xs - 1)) c.as_slice.ensures c.in-Some.ensures.value in
    last-there (pieces_of c.self.inside.sealed.items) c.self.inside.last.items c.in-Some.event.now here
    ∙ ap (λ e. slice_get (joined e.pieces) (length (joined e.pieces) - 1)) c.self.view_is

pub returns-in-None : goal.returns-in-None
returns-in-None c =
    let none = subst (λ xs. None ≡ slice_get xs (length xs - 1)) c.as_slice.ensures c.in-None.ensures.value in
    let before = c.last_in.ensures ∙ ap (λ ps. last_or None (joined (pieces_of ps))) c.as_slice-in-None.ensures.value in
    last-before (pieces_of c.self.inside.sealed.items) c.self.inside.last.items c.last_in.result none before
    ∙ ap (λ e. slice_get (joined e.pieces) (length (joined e.pieces) - 1)) c.self.view_is
