use Rattle.poets_mark.proofs.Breaking.{begins_after, begins_first}
use Rattle.poets_mark.proofs.spots.line_begin.Goals as goal

pub returns-in-Some : goal.returns-in-Some
returns-in-Some c = begins_after c.args.text.now c.args.place c.requires c.in-Some.last c.in-Some.ensures.0 c.in-Some.ensures.1

pub returns-in-None : goal.returns-in-None
returns-in-None c = begins_first c.args.text.now c.args.place c.requires c.in-None.ensures
