use Rattle.std.proofs.Common.{◌≡◌, All, List, map, take}
use Rattle.serde_json.specs.View.{view}
use Rattle.poets_value.specs.declared.value.Name.{Name}
use Rattle.poets_expr.specs.Env.{declared_of}
use Rattle.poets_report.specs.Plain.{Answer}
use Rattle.poets_command.specs.Calls.{folio_row_of}
use Rattle.poets_json.specs.Document.{part_data}
use Rattle.poets_import.specs.code.Finding.{IsPart}
use Rattle.poets_import.proofs.answers.parts_in.Given as goal

-- of the values so far these were found
abbrev pub invariant-loop-value : goal.invariant-loop-value
invariant-loop-value l =
    let IsSo = IsPart l.names (declared_of l.decls.names) in
    let data_of = part_data l.names in
    record {
      told : All IsSo (map folio_row_of l.parts.items);
      only :
          (ys : List (Name × Answer)) → All IsSo ys → map view l.values ≡ map data_of ys →
          map view (take l.value-index l.values) ≡ map data_of (map folio_row_of l.parts.items);
    }
