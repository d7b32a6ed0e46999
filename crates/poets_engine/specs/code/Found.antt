-- What is found among copies.
use Rattle.std.specs.Prelude.{◌≡◌, List, Option, IfOk, IfSome, Result}
use Rattle.std.specs.declared.alloc.Global.{Global}
use Rattle.std.specs.declared.sync.Arc.{Arc}
use Rattle.std.specs.Arc.{arc_value}
use Rattle.poets_value.specs.declared.value.Name.{Name}
use Rattle.poets_expr.specs.declared.env.Decls.{Decls}
use Rattle.poets_expr.specs.Env.{declared_of}
use Rattle.poets_report.specs.declared.report.Report.{Report}
use Rattle.poets_report.specs.Plain as plain
use Rattle.poets_rules.specs.declared.rules.Rules.{Rules}
use Rattle.poets_rules.specs.Rules.{book_of_rules}
use Rattle.poets_engine.specs.Copies.{AreReports, IsReport}

-- the declared names are those of the rules
abbrev pub AreNamesOf : Rules → Arc Decls Global → Type 0
AreNamesOf rules decls = declared_of (arc_value decls).names ≡ (book_of_rules rules).declared

-- of whatever reports these are copies, the copy that is found is that of the report with the name
abbrev pub IsFoundAmong :
    {E : Type 0} → List (Arc Report Global) → Name → Result (Option (Arc Report Global)) E → Type 0
IsFoundAmong copies x found = (reports : List plain.Report) →
    AreReports reports copies → IfOk found (λ o. IfSome o (IsReport reports x))
