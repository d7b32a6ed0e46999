use Rattle.std.proofs.Common.{map, take}
use Rattle.serde_json.specs.View.{view}
use Rattle.poets_lex.specs.Table.{Extends}
use Rattle.poets_command.specs.Statements.{statements_of}
use Rattle.poets_import.specs.code.Spoken.{AreRead, IsSentence}
use Rattle.poets_import.proofs.book.statements_in.Given as goal

-- the values so far are the texts of the statements
abbrev pub invariant-loop-value : goal.invariant-loop-value
invariant-loop-value l = record {
  said : AreRead IsSentence l.initial.names (map view (take l.value-index l.values)) (statements_of l.statements.items) l.names;
  names : Extends l.initial.names l.names;
}
