use Rattle.std.proofs.Common.{arith}
use Rattle.poets_residue.proofs.Counted.{count_of_more}
use Rattle.poets_residue.proofs.limits.less_rows.Goals as goal

pub loop-node-preserved : goal.loop-node-preserved
loop-node-preserved c =
    omega (arith, count_of_more c.args.nodes.now c.loop-node.node-index c.node-item.result c.loop-node-test.true c.node-item.is)
