-- Events may be handed to another thread, and shared.
use denote.Param.Send.{IsSend, IsSync, sendable}
use Rattle.std.proofs.Crossing.{crosses}
use Rattle.poets_table.specs.contracts.events.Events as Events

-- events may be sent
pub events_send : IsSend (Events.the_field).row
events_send = search (crosses, sendable) depth 60 fits 20000

-- and shared
pub events_sync : IsSync (Events.the_field).row
events_sync = search (crosses, sendable) depth 60 fits 20000
