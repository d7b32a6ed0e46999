use Rattle.std.proofs.Common.{sym, ◌∙◌, ap, option_map, ◌+◌}
use Rattle.poets_table.specs.TableView.{number_named}
use Rattle.poets_table.proofs.Setting.{numbers}
use Rattle.poets_table.proofs.table.Table.find.Goals as goal

pub returns-in_default : goal.returns-in_default
returns-in_default g c =
    let n = numbers c.args.name c.self.inside.names.keys c.self.inside.rows.items c.self.invariant.0 in ap (option_map (λ i. i + 1)) (sym c.in_default.is ∙ c.get_index_of.ensures.index) ∙ n ∙ ap (λ t. number_named c.args.name t.rows) c.self.view_is

pub returns : goal.returns
returns g c =
    let n = numbers c.args.name c.self.inside.names.keys c.self.inside.rows.items c.self.invariant.0 in ap (option_map (λ i. i + 1)) (sym c.in-Some.is ∙ c.get_index_of.ensures.index) ∙ n ∙ ap (λ t. number_named c.args.name t.rows) c.self.view_is
