-- Copies of what portfolios need of the rules.
use Rattle.std.specs.Prelude.{◌≡◌, List, Some, IfSome, All}
use Rattle.std.specs.declared.alloc.Global.{Global}
use Rattle.std.specs.declared.sync.Arc.{Arc}
use Rattle.std.specs.Arc.{arc_value}
use Rattle.poets_value.specs.declared.value.Name.{Name}
use Rattle.poets_expr.specs.Env.{declared_of}
use Rattle.poets_report.specs.declared.report.Report.{Report}
use Rattle.poets_report.specs.Reports.{report_of}
use Rattle.poets_report.specs.Plain as plain
use Rattle.poets_command.specs.Reports.{report_in}
use Rattle.poets_rules.specs.declared.rules.Rules.{Rules}
use Rattle.poets_rules.specs.Rules.{book_of_rules, reports_of_rules}
use Rattle.poets_engine.specs.declared.copies.Copies.{Copies}

-- the report that the name has among reports
abbrev pub IsReport : List plain.Report → Name → Arc Report Global → Type 0
IsReport reports x copy = report_in reports x ≡ Some (report_of (arc_value copy))

-- each is the report that its name has among reports
abbrev pub AreReports : List plain.Report → List (Arc Report Global) → Type 0
AreReports reports copies = All (λ copy. IsReport reports (arc_value {X = Report} copy).name copy) copies

-- the declared names, where they were copied, are those of the rules, and each copied report is the
-- one that its name has among those of the rules
pub record AreCopies (rules : Rules) (copies : Copies) : Type 0 where
  pub decls : IfSome copies.decls (λ d. declared_of (arc_value d).names ≡ (book_of_rules rules).declared)
  pub reports : AreReports (reports_of_rules rules) copies.reports.items
