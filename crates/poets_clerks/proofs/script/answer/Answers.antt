use Rattle.poets_clerks.proofs.Making.{answered}
use Rattle.poets_clerks.proofs.script.answer.Goals as goal

pub returns-clause-made : goal.returns-clause-made
returns-clause-made g c = let h = c.in_ok-kept.ensures.call in
    answered h (c.place-place.ensures _ _ _ _ h.owed) (c.in_ok-reply.ensures _ _ _ _ h.owed)
