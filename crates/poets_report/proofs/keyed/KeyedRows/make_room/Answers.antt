use Rattle.std.proofs.Common.{refl, sym, ◌∙◌, ap}
use Rattle.std.specs.Prelude.{is_some}
use Rattle.poets_report.proofs.KeyedRows.{same_rows, room_at}
use Rattle.poets_report.proofs.keyed.KeyedRows.make_room.Goals as goal

pub returns-then-contains_key-clause-room : goal.returns-then-contains_key-clause-room
returns-then-contains_key-clause-room c =
    room_at c.args.key c.in-Some.value c.self.inside.cells.entries c.args.self.now.keys c.in-Some.is (ap (λ s. s.keys) c.self.view_is)
    (sym c.contains_key.ensures ∙ c.if-contains_key.true)

pub returns-clause-rows : goal.returns-clause-rows
returns-clause-rows c =
    same_rows c.in-Some.value c.self.inside.cells.entries c.insert.new.self.entries c.self.inside.undefined
    c.self.invariant c.insert.ensures.ordered (sym c.contains_key.ensures ∙ c.if-contains_key.false) c.in-Ok.ensures.updates.0
    ∙ ap (λ s. s.rows) c.self.view_is

pub returns-clause-room : goal.returns-clause-room
returns-clause-room c =
    room_at c.args.key c.in-Some.value c.insert.new.self.entries _ c.in-Some.is refl (ap is_some c.in-Ok.ensures.updates.1)
