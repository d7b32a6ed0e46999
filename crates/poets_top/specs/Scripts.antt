-- The calls of scripts.
use Rattle.std.specs.Prelude.{ℕ, List, map}
use Rattle.poets_command.specs.Calls.{Call}
use Rattle.poets_command.specs.Plain as plain

abbrev pub under_clerk : ℕ → List plain.Command → List Call
under_clerk clerk commands = map (λ command. (clerk, command)) commands
