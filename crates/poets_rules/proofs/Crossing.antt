-- Rules may be handed to another thread.
use denote.Param.Send.{IsSend}
use Rattle.std.proofs.Crossing.{crosses}
use Rattle.std.proofs.MapsCrossing as maps
use Rattle.poets_command.proofs.Crossing.{parts}
use Rattle.poets_rules.specs.contracts.rules.Rules as Rules

-- a book with its reports may be sent
pub rules_send : IsSend (Rules.the_field).row
rules_send = search (maps.crosses, parts) depth 60 fits 20000
