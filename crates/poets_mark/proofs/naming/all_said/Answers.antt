use Rattle.std.proofs.Common.{length, sym, ap, subst, arith}
use Rattle.poets_grammar.specs.Tokens.{AreNatural}
use Rattle.poets_mark.proofs.Named.{natural_ahead, natural_after, shorter_after}
use Rattle.poets_mark.proofs.naming.all_said.Goals as goal

pub loop-rest-preserved : goal.loop-rest-preserved
loop-rest-preserved c = subst AreNatural (sym c.after_end-rest.ensures) (natural_after c.loop-rest.rest.now c.loop-rest.invariant)

pub loop-rest-smaller : goal.loop-rest-smaller
loop-rest-smaller c = let h = shorter_after c.loop-rest.rest.now c.loop-rest-test.ensures in omega (arith, h, ap length c.after_end-rest.ensures)

pub said-requires : goal.said-requires
said-requires c = subst AreNatural (sym c.ahead_of_end.ensures.ahead) (natural_ahead c.loop-rest.rest.now c.loop-rest.invariant)
