use Rattle.std.proofs.Common.{◌∙◌, ap, nat_eq}
use Rattle.poets_table.specs.Pieces.{is_full, joined, piece_length, pieces_of, starts_of}
use Rattle.poets_table.proofs.Pieces.{full-last}
use Rattle.poets_table.proofs.events.Events.is_full.Goals as goal

pub returns : goal.returns
returns c =
    ap (λ n. nat_eq n piece_length) c.len.ensures ∙ full-last (pieces_of c.self.inside.sealed.items) c.self.inside.last.items
    ∙ ap (λ e. is_full (joined e.pieces) (starts_of e.pieces)) c.self.view_is
