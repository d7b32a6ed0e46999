use Rattle.std.proofs.Common.{◌≡◌, take}
use Rattle.std.specs.List.{position_from}
use Rattle.std.specs.BTreeMap.{get}
use Rattle.poets_value.specs.declared.value.Name.{Name}
use Rattle.poets_value.specs.Names.{name_cmp}
use Rattle.poets_expr.specs.Env.{same_name}
use Rattle.poets_types.proofs.index.places.Given as goal

-- the first places so far
abbrev pub invariant-loop-place : goal.invariant-loop-place
invariant-loop-place l = (x : Name) → get name_cmp l.places x ≡ position_from (λ t. same_name t.name x) 0 (take l.place l.templates)
