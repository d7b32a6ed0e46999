use Rattle.std.proofs.Common.{map, sym, ◌∙◌, subst, arith}
use Rattle.std.specs.Arc.{arc_value}
use Rattle.poets_table.specs.Kept.{AreOfLog}
use Rattle.poets_table.specs.TableView.{IsLive, row_view}
use Rattle.poets_table.proofs.Logs.{more-of_log}
use Rattle.poets_table.proofs.table.Table.enter.Goals as goal

pub invariant_of-self : goal.invariant_of-self
invariant_of-self g c =
    let old = map row_view c.self.inside.rows.items in
    let new = map row_view c.append_at.new.rows.items in
    let live = subst (λ t. IsLive c.args.number t.rows) (sym c.self.view_is) c.requires.live in (
      c.self.invariant.0 ∙ sym c.append_at.ensures.names,
      λ h. absurd (omega (arith, h)),
      subst (λ log. AreOfLog new log) (sym c.note.ensures)
          (more-of_log c.args.number c.args.event (arc_value c.args.current) old new c.self.inside.log.items live.0 live.1 c.append_at.ensures.same c.self.invariant.2),
    )
