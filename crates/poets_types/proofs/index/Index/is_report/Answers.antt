use Rattle.std.proofs.Common.{sym, ◌∙◌}
use Rattle.poets_types.proofs.Indices.{is_among-report_names}
use Rattle.poets_types.proofs.index.Index.is_report.Goals as goal

pub returns : goal.returns
returns c = c.contains.ensures ∙ c.args.self.now.all_reports c.args.name ∙ sym (is_among-report_names c.args.self.now.reports.now c.args.name)
