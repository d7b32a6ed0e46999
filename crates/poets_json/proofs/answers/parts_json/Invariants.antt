use Rattle.std.proofs.Common.{map, take}
use Rattle.poets_command.specs.Calls.{folio_row_of}
use Rattle.poets_json.specs.Document.{part_data}
use Rattle.poets_json.specs.code.Values.{AreOf}
use Rattle.poets_json.proofs.answers.parts_json.Given as goal

abbrev pub invariant-loop-part : goal.invariant-loop-part
invariant-loop-part l = AreOf (part_data l.names) (map folio_row_of (take l.part-index l.parts)) l.made.items
