use Rattle.poets_table.proofs.Pieces.{last_or-some}
use Rattle.poets_table.proofs.events.later.Goals as goal

pub returns-in-Some : goal.returns-in-Some
returns-in-Some c = last_or-some c.args.before c.args.events.now _ c.in-Some.ensures.value
