-- Reports by their names.
use Rattle.std.specs.Prelude.{Option, Some, None, if◌then◌else◌, List, [], ◌∷◌, option_map}
use Rattle.std.specs.Borrow.{Bor}
use Rattle.std.specs.Option.{option_copied}
use Rattle.poets_value.specs.declared.value.Name.{Name}
use Rattle.poets_expr.specs.Env.{same_name}
use Rattle.poets_report.specs.Plain.{Report}
use Rattle.poets_report.specs.Reports.{report_of}
use Rattle.poets_report.specs.declared.report.Report as code

-- the report with a name
abbrev pub report_in : List Report → Name → Option Report
report_in [] x = None
report_in (q ∷ reports) x = if same_name q.name x then Some q else report_in reports x

-- the report that was found, if there is one, as plain data
abbrev pub found_report : Option (Bor code.Report) → Option Report
found_report found = option_map report_of (option_copied found)
