use Rattle.std.proofs.Common.{◌≡◌, ◌<◌, ◌∙◌, ap, arith, false, length, nat_eq}
use Rattle.std.proofs.lemmas.Bool.Decides.{nat_tests}
use Rattle.std.proofs.lemmas.Result.{on_ok_weaker}
use Rattle.poets_table.specs.Pieces.{is_full, joined, piece_length, pieces_of, starts_of}
use Rattle.poets_table.proofs.Pieces.{full-last}
use Rattle.poets_table.proofs.events.Events.make_room.Goals as goal

pub returns-clause-ok : goal.returns-clause-ok
returns-clause-ok c =
    let not_full : nat_eq (length c.self.inside.last.items) piece_length ≡ false =
    full-last (pieces_of c.self.inside.sealed.items) c.self.inside.last.items ∙ ap (λ e. is_full (joined e.pieces) (starts_of e.pieces)) c.self.view_is ∙ c.requires in
    let short = c.self.invariant.2 in
    let below : length c.self.inside.last.items < piece_length = grind (arith, nat_tests, not_full, short) in
    let same = ap length c.reserve.ensures.items in
    on_ok_weaker c.reserve.result (λ room. omega (arith, room, below, same)) c.reserve.ensures.ok
