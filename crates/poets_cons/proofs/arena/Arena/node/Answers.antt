use Rattle.std.proofs.Common.{rules, ◌≡◌, slice_get, Some}
use Rattle.poets_cons.proofs.Adding.{node_contract, node_below}
use Rattle.poets_cons.proofs.arena.Arena.node.Goals as goal

pub returns-clause-contract : goal.returns-clause-contract
returns-clause-contract c =
    let here : slice_get c.args.self.now c.args.place ≡ Some c.in-Some.node.now = search rules in
    node_contract c.args.self.now (rw c.self.view_is at c.self.invariant.0) c.args.place c.in-Some.node.now here

pub returns-clause-below : goal.returns-clause-below
returns-clause-below c =
    let here : slice_get c.args.self.now c.args.place ≡ Some c.in-Some.node.now = search rules in
    node_below c.args.self.now (rw c.self.view_is at c.self.invariant.0) c.args.place c.in-Some.node.now here
