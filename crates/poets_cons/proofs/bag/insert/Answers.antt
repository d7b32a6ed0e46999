use Rattle.poets_cons.specs.declared.bag.Bag.{Bag}
use Rattle.poets_cons.proofs.Bags.{row_inserted, row_number}
use Rattle.poets_cons.proofs.bag.insert.Goals as goal

pub returns-clause-bags : goal.returns-clause-bags
returns-clause-bags c =
    let row : Bag = record { count = c.args.count; odd = c.args.odd; even = c.args.even } in
    row_inserted c.args.bags.now.keys c.insert_full.new.self.keys row c.requires.bags (c.requires.odd, c.requires.even, c.requires.some)
    c.in-Ok.ensures.keys c.insert_full.ensures.unique

pub returns-in_default-checked_add-clause-bags : goal.returns-in_default-checked_add-clause-bags
returns-in_default-checked_add-clause-bags c =
    let row : Bag = record { count = c.args.count; odd = c.args.odd; even = c.args.even } in
    row_inserted c.args.bags.now.keys c.insert_full.new.self.keys row c.requires.bags (c.requires.odd, c.requires.even, c.requires.some)
    c.in-Ok.ensures.keys c.insert_full.ensures.unique

pub returns-clause-number : goal.returns-clause-number
returns-clause-number c =
    let row : Bag = record { count = c.args.count; odd = c.args.odd; even = c.args.even } in
    let stored = c.in-Ok.ensures.stored in
    row_number c.args.bags.now.keys c.insert_full.new.self.keys row c.requires.bags (c.requires.odd, c.requires.even, c.requires.some)
    c.in-Ok.ensures.keys c.insert_full.ensures.unique c.in-Ok.row c.in-Some.number stored.0 stored.1 stored.2 c.in-Some.ensures.1
