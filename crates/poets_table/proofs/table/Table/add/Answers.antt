use Rattle.std.proofs.Common.{arith, ◌++◌, ◌∷◌, [], map, sym, ◌∙◌, ap}
use Rattle.poets_table.specs.TableView.{number_named, row_view}
use Rattle.poets_table.proofs.Setting.{added_names}
use Rattle.std.proofs.lemmas.List.{map_push}
use Rattle.poets_table.proofs.Logs.{row-of_log}
use Rattle.poets_table.proofs.table.Table.add.Goals as goal

pub invariant_of-self-2 : goal.invariant_of-self-2
invariant_of-self-2 g c =
    let n = ap (λ t. number_named c.args.name t.rows) c.self.view_is ∙ c.requires in
    let row = c.in_ok-row.row in
    let names = added_names c.args.name c.self.inside.names.keys c.reserve.new.self.keys c.insert.new.self.keys c.self.inside.rows.items row
    c.self.invariant.0 n c.reserve.ensures.keys c.in-Ok-insert.ensures.keys c.in_ok-row.ensures.name in
    let items = c.in-Ok-push.ensures.items ∙ ap (λ rows. rows ++ row ∷ []) c.reserve-2.ensures.items in (
      names ∙ ap (map (λ r. r.name)) (sym items),
      λ h. absurd (omega (arith, h)),
      row-of_log (row_view row) (map row_view c.self.inside.rows.items) _ c.self.inside.log.items
          (ap (map row_view) items ∙ map_push row_view c.self.inside.rows.items row) (ap (λ r. r.events) c.in_ok-row.ensures.same) c.self.invariant.2,
    )
