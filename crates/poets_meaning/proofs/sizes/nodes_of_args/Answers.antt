use Rattle.std.proofs.Common.{arith}
use Rattle.poets_meaning.proofs.Counting.{nodes_of_more}
use Rattle.poets_meaning.proofs.sizes.nodes_of_args.Goals as goal

pub loop-arg-preserved : goal.loop-arg-preserved
loop-arg-preserved c =
    omega (arith, nodes_of_more c.args.args.now c.loop-arg.arg-index c.arg-item.result c.loop-arg-test.true c.arg-item.is)
