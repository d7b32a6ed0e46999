use Rattle.std.proofs.Common.{◌≡◌, map}
use Rattle.poets_command.specs.Calls.{history_of}
use Rattle.poets_making.proofs.Entries.{noted}
use Rattle.poets_making.proofs.sharing.entries_of.Given as goal

-- the entries so far
abbrev pub invariant-loop-clerk : goal.invariant-loop-clerk
invariant-loop-clerk l = history_of l.entries.items ≡ map noted l.yielded
