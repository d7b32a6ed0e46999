use Rattle.poets_cons.proofs.Adding.{node_contract, node_below}
use Rattle.poets_cons.proofs.arena.node_at.Goals as goal

pub returns-clause-contract : goal.returns-clause-contract
returns-clause-contract c = node_contract c.args.nodes.now c.requires.table c.args.place c.nth.result.now c.nth.ensures

pub returns-clause-below : goal.returns-clause-below
returns-clause-below c = node_below c.args.nodes.now c.requires.table c.args.place c.nth.result.now c.nth.ensures
