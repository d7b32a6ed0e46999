use Rattle.std.proofs.Common.{◌≤◌, sym, subst}
use Rattle.std.specs.Prelude.{Contains}
use Rattle.poets_turn.proofs.Numbered.{numbered_are_all}
use Rattle.poets_test_turnstile.proofs.clerks.run_scripts.Goals as goal

pub close-requires-clause-all : goal.close-requires-clause-all
close-requires-clause-all g c k low high =
    subst (λ l. Contains l k) (sym c.work-clerks.ensures.numbers)
    (numbered_are_all _ c.in-Ok.clerks.items c.in-Ok.ensures.clerks.0 c.in-Ok.ensures.numbers k low (subst (λ n. k ≤ n) c.in-Ok.ensures.frame.1 high))
