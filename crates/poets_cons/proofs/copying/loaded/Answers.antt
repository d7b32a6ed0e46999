use Rattle.std.proofs.Common.{◌≡◌, ◌∙◌, ap, sym, subst, length, take, slice_get, Some, option_map}
use Rattle.std.proofs.lemmas.List.{length-map}
use Rattle.std.proofs.lemmas.Option.{slice_get-get_or, slice_get-map}
use Rattle.poets_cons.specs.Row.{row_of, AreBelow}
use Rattle.poets_cons.specs.Table.{rows_of, with_row}
use Rattle.poets_cons.proofs.Loading.{next_row, next_below}
use Rattle.poets_cons.proofs.copying.loaded.Goals as goal

pub add-requires : goal.add-requires
add-requires c =
    let i = c.loop-node.node-index in
    let rows = rows_of c.args.nodes.now in
    let r = row_of c.in_ok-copy_node.field-0 in
    let copied : r ≡ row_of c.node-item.result = c.in_ok-copy_node.ensures in
    let at_i : slice_get c.args.nodes.now i ≡ Some c.node-item.result =
    slice_get-get_or c.args.nodes.now i c.node-item.result c.loop-node-test.true ∙ ap Some (sym c.node-item.is) in
    let here : slice_get rows i ≡ Some r = slice_get-map row_of c.args.nodes.now i ∙ ap (option_map row_of) at_i ∙ ap Some (sym copied) in
    let n : length (take i rows) ≡ length c.loop-node.arena = ap length (sym c.loop-node.invariant) ∙ length-map c.loop-node.arena row_of in
    subst (λ k. AreBelow k r) n (next_below rows i r here c.requires.earlier)

pub loop-node-preserved : goal.loop-node-preserved
loop-node-preserved c =
    let i = c.loop-node.node-index in
    let rows = rows_of c.args.nodes.now in
    let r = row_of c.in_ok-copy_node.field-0 in
    let copied : r ≡ row_of c.node-item.result = c.in_ok-copy_node.ensures in
    let at_i : slice_get c.args.nodes.now i ≡ Some c.node-item.result =
    slice_get-get_or c.args.nodes.now i c.node-item.result c.loop-node-test.true ∙ ap Some (sym c.node-item.is) in
    let here : slice_get rows i ≡ Some r = slice_get-map row_of c.args.nodes.now i ∙ ap (option_map row_of) at_i ∙ ap Some (sym copied) in
    c.in_ok-add.ensures.rows ∙ ap (with_row r) c.loop-node.invariant ∙ next_row rows i r here c.requires.distinct
