use Rattle.std.proofs.Common.{sym}
use Rattle.poets_grammar.specs.StatementReading.{parameter}
use Rattle.poets_parse.proofs.Lists.{listing_next}
use Rattle.poets_parse.proofs.list.some_parameters.Goals as goal

pub loop-params-preserved : goal.loop-params-preserved
loop-params-preserved c =
    listing_next parameter c.in_ok-param.param c.in_ok-param.behind.now c.in-Some.next.now c.loop-params.invariant c.in_ok-param.ensures.gives c.in_ok-param.ensures.shorter c.in_ok-push.ensures.items
    (sym c.in-Some.ensures.found) c.in-Some.ensures.shorter
