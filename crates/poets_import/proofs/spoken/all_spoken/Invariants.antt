use Rattle.std.proofs.Common.{◌≡◌, map, take}
use Rattle.serde_json.specs.View.{view}
use Rattle.poets_lex.specs.Table.{Extends}
use Rattle.poets_import.specs.code.Parts.{said_of}
use Rattle.poets_import.specs.code.Spoken.{AreRead, EntrySaid}
use Rattle.poets_import.proofs.spoken.all_spoken.Given as goal

-- the entries so far say this
abbrev pub invariant-loop-value : goal.invariant-loop-value
invariant-loop-value l = record {
  said : AreRead EntrySaid l.initial.names (map view (take l.value-index l.values)) (map said_of l.all.items) l.names;
  values : map (λ s. s.value.now) l.all.items ≡ take l.value-index l.values;
  names : Extends l.initial.names l.names;
}
