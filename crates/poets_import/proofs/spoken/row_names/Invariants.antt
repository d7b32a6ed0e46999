use Rattle.std.proofs.Common.{map, take}
use Rattle.serde_json.specs.View.{view}
use Rattle.poets_lex.specs.Table.{Extends}
use Rattle.poets_import.specs.code.Spoken.{AreRead, IsRowOf}
use Rattle.poets_import.proofs.spoken.row_names.Given as goal

-- the rows so far begin with the names
abbrev pub invariant-loop-row : goal.invariant-loop-row
invariant-loop-row l = record {
  said : AreRead IsRowOf l.initial.names (map view (take l.row-index l.rows)) l.found.items l.names;
  names : Extends l.initial.names l.names;
}
