use Rattle.poets_way.proofs.Tables.{node-at}
use Rattle.poets_way.proofs.table.node_at.Goals as goal

pub returns-clause-way : goal.returns-clause-way
returns-clause-way c = (node-at c.args.nodes.now c.args.rows.now c.requires.table c.args.number c.nth.result c.nth.ensures).0

pub returns-clause-names : goal.returns-clause-names
returns-clause-names c = (node-at c.args.nodes.now c.args.rows.now c.requires.table c.args.number c.nth.result c.nth.ensures).1
