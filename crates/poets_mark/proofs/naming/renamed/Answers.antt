use Rattle.std.proofs.Common.{sym, subst}
use Rattle.poets_grammar.specs.Tokens.{AreNatural}
use Rattle.poets_mark.proofs.Named.{natural_at, natural_more, natural_none}
use Rattle.poets_mark.proofs.naming.renamed.Goals as goal

pub loop-place-init : goal.loop-place-init
loop-place-init c = subst AreNatural (sym c.new-found.ensures) natural_none

pub loop-place-preserved : goal.loop-place-preserved
loop-place-preserved c =
    let here = natural_at c.args.tokens.now c.loop-place.place c.index-tokens-place.result c.loop-place-test.true c.index-tokens-place.is c.requires in
    subst AreNatural (sym c.in_ok-push.ensures.items)
    (natural_more c.loop-place.found.items c.replaced_from.result c.loop-place.invariant (c.replaced_from.ensures here))
