use Rattle.std.proofs.Common.{ap, ◌∙◌}
use Rattle.serde_json.specs.Written.{has_float}
use Rattle.poets_command.specs.Calls.{entry_of}
use Rattle.poets_json.proofs.NoFloats.{no_float_entry}
use Rattle.poets_json.proofs.export.put_entry.Goals as goal

pub put_json-requires : goal.put_json-requires
put_json-requires c =
    ap has_float c.in_ok-value.ensures ∙ no_float_entry c.args.names.now (entry_of c.args.entry.now)
