-- Reports by their names.
use Rattle.std.proofs.Common.{◌≡◌, Bool, true, false, List, [], ◌∷◌, map, Some, refl, option_map}
use Rattle.std.specs.Prelude.{if◌then◌else◌, find}
use Rattle.poets_value.specs.declared.value.Name.{Name}
use Rattle.poets_expr.specs.Env.{same_name}
use Rattle.poets_report.specs.declared.report.Report.{Report}
use Rattle.poets_report.specs.Reports.{report_of}
use Rattle.poets_command.specs.Reports.{report_in}

-- the first with the name
pub report_in_find : (reports : List Report) (x : Name) → report_in (map report_of reports) x ≡ option_map report_of (find (λ r. same_name r.name x) reports)
report_in_find [] x = refl
report_in_find (r ∷ reports) x = by_test (same_name r.name x) (report_in_find reports x)
  where
    by_test : (b : Bool) → report_in (map report_of reports) x ≡ option_map report_of (find (λ s. same_name s.name x) reports) →
        (if b then Some (report_of r) else report_in (map report_of reports) x) ≡ option_map report_of (if b then Some r else find (λ s. same_name s.name x) reports)
    by_test true e = refl
    by_test false e = e
