use Rattle.std.proofs.Common.{IfOk, ap, ◌∙◌, subst}
use Rattle.std.specs.List.{AllZip}
use Rattle.rayon.proofs.ToStd.{slice-AllZip}
use Rattle.poets_expr.specs.Env.{declared_of}
use Rattle.poets_report.specs.Reports.{report_of}
use Rattle.poets_folio.specs.Rows.{IsRow}
use Rattle.poets_folio.proofs.Rows.{rows_meet}
use Rattle.poets_folio.proofs.folio.rows.Goals as goal

pub returns-in-Ok : goal.returns-in-Ok
returns-in-Ok g c =
    let slice = ap (λ it. it.slice.now) c.map.ensures.base ∙ c.par_iter.ensures in
    let h = c.in-Ok.ensures in
    let f = c.map.result.f in
    let P = IsRow (declared_of f.1.now.names) (report_of f.2.now) f.3.now.items in
    let made = slice-AllZip h.1.0 c.args.parts.now (h.1.1 ∙ slice) (λ p r. IfOk r (P p)) h.0 h.1.2 in
    subst (λ f. IfOk c.in-Ok.rows (λ v. AllZip (IsRow (declared_of f.1.now.names) (report_of f.2.now) f.3.now.items) c.args.parts.now v.items)) c.map.ensures.f
    (rows_meet (λ v. v.items) P c.args.parts.now h.0 c.in-Ok.rows made h.2)
