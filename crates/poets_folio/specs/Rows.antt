-- The rows of a portfolio.
use Rattle.std.specs.Prelude.{◌≡◌, List, map, Option}
use Rattle.std.specs.List.{AllZip}
use Rattle.poets_value.specs.declared.value.Name.{Name}
use Rattle.poets_value.specs.declared.value.Value.{Value}
use Rattle.poets_value.specs.Listed.{Listed}
use Rattle.poets_expr.specs.declared.env.Decls.{Decls}
use Rattle.poets_expr.specs.Env.{Declared, declared_of}
use Rattle.poets_report.specs.Plain.{Report}
use Rattle.poets_report.specs.Answers.{IsAnswer, answer_of}
use Rattle.poets_report.specs.Reports.{report_of}
use Rattle.poets_report.specs.declared.report.Answer.{Answer}
use Rattle.poets_report.specs.declared.report.Report.{Report as CodeReport}
use Rattle.poets_table.specs.Pieces.{joined}
use Rattle.poets_command.specs.Calls.{folio_row_of}
use Rattle.poets_command.specs.Totals.{total_of}
use Rattle.poets_command.specs.declared.call.Folio.{Folio}
use Rattle.poets_folio.specs.declared.folio.Part.{Part}

-- the row of a part: its name, and the report's answer over its events
abbrev pub IsRow : Declared → Report → List (Option Value) → Part → Name × Answer → Type 0
IsRow declared q args part row =
    (row.0 ≡ part.name) × IsAnswer declared q args (joined part.events.pieces) (answer_of row.1)

-- the rows of the portfolio are those of the parts in order, under the declared names
abbrev pub HasRowsOf : Decls → CodeReport → Listed (Option Value) → Listed Part → Folio → Type 0
HasRowsOf decls report args parts folio =
    AllZip (IsRow (declared_of decls.names) (report_of report) args.items) parts.items folio.rows.items

-- the total of the portfolio is that of its rows
abbrev pub HasTotalOf : CodeReport → Folio → Type 0
HasTotalOf report folio = folio.total ≡ total_of (report_of report) (map folio_row_of folio.rows.items)
