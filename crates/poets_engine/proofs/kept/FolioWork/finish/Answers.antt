use Rattle.std.proofs.Common.{◌≡◌, map, subst}
use Rattle.std.specs.Prelude.{IfOk}
use Rattle.std.specs.Arc.{arc_value}
use Rattle.std.specs.List.{AllZip}
use Rattle.poets_expr.specs.Env.{declared_of}
use Rattle.poets_report.specs.Reports.{report_of}
use Rattle.poets_folio.specs.Rows.{IsRow}
use Rattle.poets_command.specs.Calls.{folio_row_of}
use Rattle.poets_command.specs.Totals.{total_of}
use Rattle.poets_engine.proofs.kept.FolioWork.finish.Goals as goal

pub returns-clause-rows : goal.returns-clause-rows
returns-clause-rows g c =
    let work = c.args.self in
    let declared =
    subst (λ d. IfOk c.portfolio.result (λ f. AllZip (IsRow (declared_of d.names) (report_of c.deref-2.result.now) work.args.items) work.parts.items f.rows.items)) c.deref.ensures
    c.portfolio.ensures.rows in
    subst (λ r. IfOk c.portfolio.result (λ f. AllZip (IsRow (declared_of (arc_value work.decls).names) (report_of r) work.args.items) work.parts.items f.rows.items)) c.deref-2.ensures declared

pub returns-clause-total : goal.returns-clause-total
returns-clause-total g c =
    subst (λ r. IfOk c.portfolio.result (λ f. f.total ≡ total_of (report_of r) (map folio_row_of f.rows.items))) c.deref-2.ensures c.portfolio.ensures.total
