use Rattle.std.proofs.Common.{◌≡◌, ◌+◌, [], take, drop}
use Rattle.std.specs.BTreeSet.{contains}
use Rattle.poets_value.specs.declared.value.Name.{Name}
use Rattle.poets_value.specs.Names.{name_cmp}
use Rattle.poets_syntax.specs.Typed.{is_among}
use Rattle.poets_command.specs.Statements.{statements_of}
use Rattle.poets_command.specs.TypedStatements.{twice_from}
use Rattle.poets_types.proofs.Twice.{names_before}
use Rattle.poets_types.proofs.declared.check_names.Given as goal

-- the rest gives the answer, and the names so far are seen
abbrev pub invariant-loop-place : goal.invariant-loop-place
invariant-loop-place l = record {
  rest :
      twice_from 1 [] (statements_of l.statements)
      ≡ twice_from (l.place + 1) (names_before (statements_of (take l.place l.statements)) []) (statements_of (drop l.place l.statements));
  seen : (x : Name) → contains name_cmp l.seen x ≡ is_among (names_before (statements_of (take l.place l.statements)) []) x;
}
