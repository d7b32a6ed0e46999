-- Copies of reports, found by their names.
use Rattle.std.proofs.Common.{◌≡◌, Bool, true, false, List, [], ◌∷◌, length, Option, Some, refl, sym, ◌∙◌, ap, subst}
use Rattle.std.specs.Prelude.{if◌then◌else◌}
use Rattle.std.specs.Arc.{arc_value}
use Rattle.std.specs.declared.alloc.Global.{Global}
use Rattle.std.specs.declared.sync.Arc.{Arc}
use Rattle.poets_value.specs.declared.value.Name.{Name}
use Rattle.poets_expr.specs.Env.{same_name}
use Rattle.poets_expr.proofs.SameTrees.{name_one}
use Rattle.poets_report.specs.declared.report.Report.{Report}
use Rattle.poets_report.specs.Reports.{report_of}
use Rattle.poets_report.specs.Plain as plain
use Rattle.poets_command.specs.Reports.{report_in}
use Rattle.poets_engine.specs.Copies.{IsReport}

named_by : (p : plain.Report) (x : Name) (q : plain.Report) (rest : Option plain.Report) (b : Bool) → same_name p.name x ≡ b → (rest ≡ Some q → q.name ≡ x) →
    (if b then Some p else rest) ≡ Some q → q.name ≡ x
named_by p x q rest true named more e = let same : p ≡ q = cc in ap (λ r. r.name) (sym same) ∙ name_one p.name x named
named_by p x q rest false named more e = more e

-- the report that a name has has the name
pub report_named : (reports : List plain.Report) (x : Name) (q : plain.Report) → report_in reports x ≡ Some q → q.name ≡ x
report_named [] x q e = absurd cc
report_named (p ∷ reports) x q e = named_by p x q (report_in reports x) (same_name p.name x) refl (report_named reports x q) e

-- the copy of the report that a name has is the one that its own name has
pub copy_named : (reports : List plain.Report) (x : Name) (report : Report) (copy : Arc Report Global) → report_in reports x ≡ Some (report_of report) →
    report_of (arc_value copy) ≡ report_of report → IsReport reports (arc_value {X = Report} copy).name copy
copy_named reports x report copy found same =
    let named : (arc_value {X = Report} copy).name ≡ x = ap (λ q. q.name) same ∙ report_named reports x (report_of report) found in
    subst (λ y. IsReport reports y copy) (sym named) (found ∙ ap Some (sym same))

-- and has as many parameters
pub as_many_params : (reports : List plain.Report) (x : Name) (report : Report) (copy : Arc Report Global) → report_in reports x ≡ Some (report_of report) → IsReport reports x copy →
    length report.params.items ≡ length (arc_value {X = Report} copy).params.items
as_many_params reports x report copy found is =
    let both : Some (report_of report) ≡ Some (report_of (arc_value copy)) = sym found ∙ is in
    let same : report_of report ≡ report_of (arc_value copy) = cc in
    ap (λ q. length q.params) same
