-- The entries of calls that were made.
use Rattle.std.specs.Prelude.{◌≡◌, ℕ, List, Option, Some}
use Rattle.poets_command.specs.Calls.{history_of}
use Rattle.poets_command.specs.declared.call.Command.{Command}
use Rattle.poets_command.specs.declared.call.Entry as code
use Rattle.poets_command.specs.declared.call.Reply.{Reply}
use Rattle.poets_making.specs.Noted.{entries_of}
use Rattle.poets_value.specs.Listed.{Listed}

-- there are replies, and the entries are those of the calls with them
abbrev pub AreEntriesWith : List (ℕ × Command) → Option (Listed Reply) → Listed code.Entry → Type 0
AreEntriesWith calls replies entries =
    (found : Listed Reply) × (replies ≡ Some found) × (history_of entries.items ≡ entries_of calls found.items)
