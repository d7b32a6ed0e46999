use Rattle.std.proofs.Common.{◌∙◌, ap}
use Rattle.poets_cons.specs.Row.{row_of}
use Rattle.poets_cons.specs.Table.{rows_of}
use Rattle.poets_cons.proofs.Adding.{inserted_row, added_grows, added_table, added_reached, row_found}
use Rattle.poets_cons.proofs.Alikeness.{added_nodes}
use Rattle.poets_cons.proofs.Standing.{stands_by}
use Rattle.poets_cons.proofs.arena.insert.Goals as goal

pub returns-clause-table : goal.returns-clause-table
returns-clause-table c =
    added_table c.args.nodes.now.keys c.insert_full.new.self.keys c.args.node c.requires.table c.requires.below c.in-Ok.ensures.keys c.insert_full.ensures.unique

pub returns-clause-rows : goal.returns-clause-rows
returns-clause-rows c = ap rows_of c.in-Ok.ensures.keys ∙ inserted_row c.args.nodes.now.keys c.args.node

pub returns-clause-inserted : goal.returns-clause-inserted
returns-clause-inserted c =
    let old = c.args.nodes.now.keys in
    let new = c.insert_full.new.self.keys in
    let made = c.in-Ok.ensures.keys in
    let unique = c.insert_full.ensures.unique in
    let h = c.in-Ok.ensures.stored in
    let row = row_found new c.in-Ok.place c.args.node h.0 h.1 h.2 in
    let grows = added_grows old new c.args.node c.requires.table c.requires.below made unique in
    let all = added_table old new c.args.node c.requires.table c.requires.below made unique in
    record {
      row = row;
      stands = stands_by old new grows all.earlier c.in-Ok.place (row_of c.args.node) row c.requires.below;
      reached = added_reached old new c.args.node c.requires.table c.requires.below made unique c.in-Ok.place row;
      nodes = added_nodes old new c.args.node c.in-Ok.is_new made c.in-Ok.ensures.added;
    }
