use Rattle.std.proofs.Common.{◌≡◌, take}
use Rattle.std.specs.List.{list_any}
use Rattle.std.specs.BTreeSet as tree_set
use Rattle.poets_value.specs.declared.value.Name.{Name}
use Rattle.poets_value.specs.Names.{name_cmp}
use Rattle.poets_expr.specs.Env.{same_name}
use Rattle.poets_types.proofs.index.report_names.Given as goal

-- the names so far
abbrev pub invariant-loop-report : goal.invariant-loop-report
invariant-loop-report l = (x : Name) → tree_set.contains name_cmp l.names x ≡ list_any (λ r. same_name x r.name) (take l.report-index l.reports)
