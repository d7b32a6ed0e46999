use Rattle.std.proofs.Common.{◌∙◌, sym, ap, subst}
use Rattle.std.specs.Arc.{arc_value}
use Rattle.std.specs.Prelude.{IfSome}
use Rattle.std.proofs.lemmas.List.Elements.{All-push}
use Rattle.poets_report.specs.declared.report.Report.{Report}
use Rattle.poets_report.specs.Reports.{report_of}
use Rattle.poets_rules.specs.Rules.{reports_of_rules}
use Rattle.poets_engine.specs.Copies.{AreReports, IsReport}
use Rattle.poets_engine.proofs.Copied.{copy_named}
use Rattle.poets_engine.proofs.copies.Copies.report.Goals as goal

pub returns-in-Some-clause-ok : goal.returns-in-Some-clause-ok
returns-in-Some-clause-ok c =
    let reports = reports_of_rules c.args.rules.now in
    let among = c.in_ok-report.ensures reports (subst (AreReports reports) (sym c.as_slice.ensures) c.requires.copies.reports) in
    subst (λ o. IfSome o (IsReport reports c.args.name)) c.in-Some.is among

pub returns-clause-copies : goal.returns-clause-copies
returns-clause-copies c =
    let reports = reports_of_rules c.args.rules.now in
    let copy = c.in_ok-try_clone.field-0 in
    let same = ap report_of (c.in_ok-try_clone.ensures ∙ c.in_ok-report-2.ensures.ok) ∙ c.in_ok-copy.ensures in
    let named = copy_named reports c.args.name c.args.report.now copy c.requires.found same in
    record {
      decls = c.requires.copies.decls;
      reports = subst (AreReports reports) (sym c.in_ok-push.ensures.items)
          (All-push (λ r. IsReport reports (arc_value {X = Report} r).name r) c.args.self.now.reports.items copy c.requires.copies.reports named);
    }
