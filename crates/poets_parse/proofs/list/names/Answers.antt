use Rattle.std.proofs.Common.{sym}
use Rattle.poets_grammar.specs.Reading.{name}
use Rattle.poets_parse.proofs.Lists.{listing_next}
use Rattle.poets_parse.proofs.list.names.Goals as goal

pub loop-names-preserved : goal.loop-names-preserved
loop-names-preserved c =
    listing_next name c.in_ok-name.name c.in_ok-name.behind.now c.in-Some.next.now c.loop-names.invariant c.in_ok-name.ensures.gives c.in_ok-name.ensures.shorter c.in_ok-push.ensures.items
    (sym c.in-Some.ensures.found) c.in-Some.ensures.shorter
