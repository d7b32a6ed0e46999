use Rattle.std.proofs.Common.{◌∙◌, ap}
use Rattle.poets_test_journal.proofs.stored.came.Goals as goal

pub loop-preserved : goal.loop-preserved
loop-preserved g c = ap (λ f. f.inner) c.turn.ensures.frame ∙ c.loop.invariant
