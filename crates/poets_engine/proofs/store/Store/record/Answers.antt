use Rattle.std.proofs.Common.{◌-◌, ◌≤◌, ◌∙◌, sym, subst, ap, length}
use Rattle.poets_table.specs.TableView.{with_room}
use Rattle.poets_engine.proofs.Rows.{length-changed_at}
use Rattle.poets_engine.proofs.store.Store.record.Goals as goal

pub enter-requires-clause-live : goal.enter-requires-clause-live
enter-requires-clause-live g c =
    let same = ap length c.in_ok-room.ensures.ok ∙ length-changed_at with_room (c.args.number - 1) c.self.inside.table.rows in
    let live = subst (λ s. c.args.number ≤ length s.rows) (sym c.self.view_is) c.requires.1 in
    (c.requires.0, subst (λ n. c.args.number ≤ n) (sym same) live)
