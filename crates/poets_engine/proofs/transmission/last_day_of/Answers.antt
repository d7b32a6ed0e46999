use Rattle.std.proofs.Common.{Some, None}
use Rattle.poets_table.specs.Pieces.{joined}
use Rattle.poets_engine.proofs.Days.{last_day_is}
use Rattle.poets_engine.proofs.transmission.last_day_of.Goals as goal

pub returns-in-Some : goal.returns-in-Some
returns-in-Some c = last_day_is (joined c.args.events.now.pieces) (Some c.in-Some.last) c.in-Some.ensures

pub returns-in-None : goal.returns-in-None
returns-in-None c = last_day_is (joined c.args.events.now.pieces) None c.in-None.ensures
