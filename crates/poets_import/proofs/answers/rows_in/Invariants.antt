use Rattle.std.proofs.Common.{◌≡◌, All, List, map, take}
use Rattle.serde_json.specs.View.{view}
use Rattle.poets_expr.specs.Env.{declared_of}
use Rattle.poets_report.specs.Plain.{KeyRow}
use Rattle.poets_json.specs.Document.{row_data}
use Rattle.poets_import.specs.code.Finding.{IsRow}
use Rattle.poets_import.proofs.answers.rows_in.Given as goal

-- of the values so far these were found
abbrev pub invariant-loop-value : goal.invariant-loop-value
invariant-loop-value l =
    let IsSo = IsRow l.names (declared_of l.decls.names) in
    let data_of = row_data l.names in
    record {
      told : All IsSo l.rows.items;
      only :
          (ys : List KeyRow) → All IsSo ys → map view l.values ≡ map data_of ys →
          map view (take l.value-index l.values) ≡ map data_of l.rows.items;
    }
