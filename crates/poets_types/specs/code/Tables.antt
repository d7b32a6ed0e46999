-- Tables and sets of names.
use Rattle.std.specs.Prelude.{◌≡◌, ◌||◌, ℕ, Bool, List, Option, Some, None, if◌then◌else◌}
use Rattle.std.specs.Option.{option_or}
use Rattle.std.specs.List.{position_from, list_any}
use Rattle.std.specs.BTreeMap.{get, BTreeMap}
use Rattle.std.specs.BTreeSet.{contains, BTreeSet}
use Rattle.poets_value.specs.declared.value.Name.{Name}
use Rattle.poets_value.specs.Names.{name_cmp}
use Rattle.poets_expr.specs.Env.{same_name}
use Rattle.poets_syntax.specs.declared.term.Template.{Template}
use Rattle.poets_report.specs.declared.report.Report.{Report}

-- the value for that name, and none for any other
abbrev pub only : {V : Type 0} → Name → V → Name → Option V
only name value x = if same_name name x then Some value else None

-- the table got these values, each where it had none for the name
abbrev pub AreEntered : {V : Type 0} → (Name → Option V) → (old new : BTreeMap Name V) → Type 0
AreEntered values old new = (x : Name) → get name_cmp new x ≡ option_or (get name_cmp old x) (values x)

-- the set got the names that are such
abbrev pub AreAdded : (such : Name → Bool) → (old new : BTreeSet Name) → Type 0
AreAdded such old new = (x : Name) → contains name_cmp new x ≡ (contains name_cmp old x || such x)

-- the table has the first place of each template's name
abbrev pub HasFirstPlaces : List Template → BTreeMap Name ℕ → Type 0
HasFirstPlaces templates table = (x : Name) → get name_cmp table x ≡ position_from (λ t. same_name t.name x) 0 templates

-- the set has the names of the reports
abbrev pub HasReportNames : List Report → BTreeSet Name → Type 0
HasReportNames reports names = (x : Name) → contains name_cmp names x ≡ list_any (λ r. same_name x r.name) reports
