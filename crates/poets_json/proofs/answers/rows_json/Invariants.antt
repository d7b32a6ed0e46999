use Rattle.std.proofs.Common.{take}
use Rattle.poets_json.specs.Document.{row_data}
use Rattle.poets_json.specs.code.Values.{AreOf}
use Rattle.poets_json.proofs.answers.rows_json.Given as goal

abbrev pub invariant-loop-row : goal.invariant-loop-row
invariant-loop-row l = AreOf (row_data l.names) (take l.row-index l.rows) l.made.items
