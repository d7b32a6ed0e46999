use Rattle.std.proofs.Common.{◌≡◌, [], take, drop, reverse}
use Rattle.std.specs.Prelude.{◌||◌}
use Rattle.std.specs.BTreeSet.{contains}
use Rattle.poets_value.specs.declared.value.Name.{Name}
use Rattle.poets_value.specs.Names.{name_cmp}
use Rattle.poets_syntax.specs.Typed.{is_among, check_new}
use Rattle.poets_types.proofs.declared.add_names.Given as goal

-- the rest gives the answer, and the names so far are added
abbrev pub invariant-loop-name : goal.invariant-loop-name
invariant-loop-name l = record {
  rest : check_new (contains name_cmp l.initial.seen) [] l.names ≡ check_new (contains name_cmp l.initial.seen) (reverse (take l.name-index l.names)) (drop l.name-index l.names);
  seen : (x : Name) → contains name_cmp l.seen x ≡ (contains name_cmp l.initial.seen x || is_among (take l.name-index l.names) x);
}
