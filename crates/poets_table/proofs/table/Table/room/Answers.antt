use Rattle.std.proofs.Common.{map, sym, ◌∙◌, subst, arith}
use Rattle.poets_table.specs.Kept.{AreOfLog}
use Rattle.poets_table.specs.TableView.{IsLive, row_view, with_room}
use Rattle.poets_table.proofs.Logs.{kept-of_log, room-events}
use Rattle.poets_table.proofs.table.Table.room.Goals as goal

pub invariant_of-self-2 : goal.invariant_of-self-2
invariant_of-self-2 g c =
    let old = map row_view c.self.inside.rows.items in
    let new = map row_view c.room_at.new.rows.items in
    let live = subst (λ t. IsLive c.args.number t.rows) (sym c.self.view_is) c.requires in
    let room = c.in_ok-reserve.ensures.ok in (
      c.self.invariant.0 ∙ sym c.room_at.ensures.names,
      λ h. (omega (arith, room), c.in_ok-room_at.ensures.room),
      subst (λ log. AreOfLog new log) (sym c.reserve.ensures.items)
          (kept-of_log with_room room-events c.args.number old new c.self.inside.log.items live.0 c.in_ok-room_at.ensures.ok c.self.invariant.2),
    )
