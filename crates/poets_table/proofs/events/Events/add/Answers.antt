use Rattle.std.proofs.Common.{◌∙◌, ap}
use Rattle.poets_table.specs.Pieces.{pieces_of, starts_of}
use Rattle.poets_table.proofs.Pieces.{starts-last}
use Rattle.poets_table.proofs.events.Events.add.Goals as goal

pub returns-clause-starts : goal.returns-clause-starts
returns-clause-starts c =
    starts-last (pieces_of c.self.inside.sealed.items) c.push.new.self.items c.self.inside.last.items ∙ ap (λ e. starts_of e.pieces) c.self.view_is
