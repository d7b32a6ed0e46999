use Rattle.poets_table.proofs.Starts.{cut-starts, event-starts, front-starts, new-starts, room-starts, within-starts}
use Rattle.poets_table.proofs.laws.starts_of_rows.Goals as goal

pub returns-clause-new : goal.returns-clause-new
returns-clause-new g c = new-starts

pub returns-clause-room : goal.returns-clause-room
returns-clause-room g c = room-starts

pub returns-clause-event : goal.returns-clause-event
returns-clause-event g c = event-starts

pub returns-clause-cut : goal.returns-clause-cut
returns-clause-cut g c = cut-starts

pub returns-clause-front : goal.returns-clause-front
returns-clause-front g c = front-starts

pub returns-clause-within : goal.returns-clause-within
returns-clause-within g c = within-starts
