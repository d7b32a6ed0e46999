use Rattle.poets_parse.proofs.Depths.{measured_more, all_measured}
use Rattle.poets_parse.proofs.depth.deepest.Goals as goal

pub loop-token-preserved : goal.loop-token-preserved
loop-token-preserved c =
    measured_more c.args.tokens.now c.loop-token.token-index c.loop-token.here c.loop-token.deepest c.open_behind-here.result c.max-deepest.result c.token-item.result
    c.loop-token-test.true c.token-item.is c.open_behind-here.ensures c.max-deepest.ensures c.loop-token.invariant

pub returns-clause-most : goal.returns-clause-most
returns-clause-most c = all_measured c.args.tokens.now c.loop-token.token-index c.loop-token.here c.loop-token.deepest c.loop-token-test.false c.loop-token.invariant
