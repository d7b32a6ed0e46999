use Rattle.std.proofs.Common.{◌≤◌, ap, sym, subst, ◌∙◌}
use Rattle.serde_json.specs.Data.{Data, depth}
use Rattle.serde_json.specs.Read.{max_depth}
use Rattle.serde_json.specs.Written.{has_float}
use Rattle.poets_command.specs.Calls.{entry_of}
use Rattle.poets_json.proofs.NoFloats.{no_float_entry}
use Rattle.poets_import.proofs.Depths.{depth_entry}
use Rattle.poets_import.proofs.entries.is_value_of.Goals as goal

pub same-requires : goal.same-requires
same-requires c =
    let names = c.args.names.now in
    let entry = entry_of c.args.entry.now in
    record {
      left = c.requires;
      right = subst (λ (d : Data). depth d ≤ max_depth) (sym c.in_ok-again.ensures) (depth_entry names entry);
      floats = ap has_float c.in_ok-again.ensures ∙ no_float_entry names entry;
    }
