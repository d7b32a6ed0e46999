use Rattle.std.proofs.Common.{take}
use Rattle.poets_value.specs.code.Texts.{Puts}
use Rattle.poets_command.specs.Calls.{history_of}
use Rattle.poets_json.specs.Document.{entry_data}
use Rattle.poets_json.specs.code.Values.{behind_commas}
use Rattle.poets_json.proofs.export.put_more_entries.Given as goal

abbrev pub invariant-loop-entry : goal.invariant-loop-entry
invariant-loop-entry l =
    Puts l.initial.out l.out (behind_commas (entry_data l.names) (history_of (take l.entry-index l.entries)))
