use Rattle.std.proofs.Common.{ap, length}
use Rattle.poets_cons.specs.Notes.{noted}
use Rattle.poets_cons.specs.Table.{contract_at}
use Rattle.poets_cons.proofs.Copied.{no_copies}
use Rattle.poets_cons.proofs.Rooting.{rooted, root_stands}
use Rattle.poets_cons.proofs.rows.rows_at.Goals as goal

pub copy_once-requires-clause-copies : goal.copy_once-requires-clause-copies
copy_once-requires-clause-copies c =
    no_copies c.args.nodes.now c.new-rows.result.items (noted c.new-copies.result) c.new-rows.ensures.items (λ k. ap (λ rows. noted rows k) c.new-copies.ensures)

pub invariant_of-result : goal.invariant_of-result
invariant_of-result c =
    let x = c.in_ok-_root.ensures in (
      x.copies.table,
      rooted c.new-rows.result.items c.copy_once.new.into.items (ap length c.new-rows.ensures.items) x.copies.table c.in_ok-_root._root
          (contract_at c.args.nodes.now c.args.place) x.stands x.reached,
    )

pub returns : goal.returns
returns c =
    let x = c.in_ok-_root.ensures in
    root_stands c.new-rows.result.items c.copy_once.new.into.items (ap length c.new-rows.ensures.items) x.copies.table c.in_ok-_root._root
    (contract_at c.args.nodes.now c.args.place) x.stands x.reached
