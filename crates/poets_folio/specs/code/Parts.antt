-- The row of one part of a portfolio.
use Rattle.std.specs.Prelude.{Option}
use Rattle.poets_value.specs.Listed.{Listed}
use Rattle.poets_value.specs.declared.value.Name.{Name}
use Rattle.poets_value.specs.declared.value.Value.{Value}
use Rattle.poets_expr.specs.declared.env.Decls.{Decls}
use Rattle.poets_expr.specs.Env.{declared_of}
use Rattle.poets_report.specs.Reports.{report_of}
use Rattle.poets_report.specs.declared.report.Answer.{Answer}
use Rattle.poets_report.specs.declared.report.Report.{Report}
use Rattle.poets_folio.specs.Rows.{IsRow}
use Rattle.poets_folio.specs.declared.folio.Part.{Part}

-- the row of a part, under the declared names
abbrev pub IsRowUnder : Decls → Report → Listed (Option Value) → Part → Name × Answer → Type 0
IsRowUnder decls report args part row = IsRow (declared_of decls.names) (report_of report) args.items part row
