use Rattle.std.proofs.Common.{◌∙◌, sym, ap, length}
use Rattle.poets_table.proofs.Pieces.{length-starts}
use Rattle.poets_table.proofs.cut.Cut.pieces.Goals as goal

pub returns : goal.returns
returns c = c.piece_count.ensures.count ∙ sym (length-starts 0 c.self.inside.rest.pieces) ∙ ap (λ v. length v.starts) c.self.view_is
