use Rattle.std.proofs.Common.{map, refl, sym, ◌∙◌, subst}
use Rattle.poets_table.specs.TableView.{IsLive, finished, row_view}
use Rattle.poets_table.proofs.Setting.{still_ready}
use Rattle.poets_table.proofs.Logs.{kept-of_log}
use Rattle.poets_table.proofs.table.Table.finish.Goals as goal

pub invariant_of-self : goal.invariant_of-self
invariant_of-self g c =
    let live = subst (λ t. IsLive c.args.number t.rows) (sym c.self.view_is) c.requires in (
      c.self.invariant.0 ∙ sym c.end_at.ensures.names,
      still_ready c.self.inside.ready c.self.inside.rows.items c.end_at.new.rows.items c.self.inside.log c.end_at.ensures.rooms c.self.invariant.1,
      kept-of_log finished (λ r. refl) c.args.number (map row_view c.self.inside.rows.items) (map row_view c.end_at.new.rows.items) c.self.inside.log.items
          live.0 c.end_at.ensures.same c.self.invariant.2,
    )
