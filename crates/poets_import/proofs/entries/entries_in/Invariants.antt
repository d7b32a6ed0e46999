use Rattle.std.proofs.Common.{◌≡◌, map}
use Rattle.std.specs.List.{AllZip}
use Rattle.poets_expr.specs.Env.{declared_of}
use Rattle.poets_command.specs.Calls.{history_of}
use Rattle.poets_json.specs.Document.{entry_data}
use Rattle.poets_import.specs.code.Parts.{IsFoundEntry, data_of, said_of}
use Rattle.poets_import.proofs.entries.entries_in.Given as goal

-- the entries so far
abbrev pub invariant-loop-spoken : goal.invariant-loop-spoken
invariant-loop-spoken l = record {
  values : map data_of l.yielded ≡ map (entry_data l.names) (history_of l.entries.items);
  found : AllZip (IsFoundEntry l.names (declared_of l.decls.names)) (map said_of l.yielded) (history_of l.entries.items);
}
