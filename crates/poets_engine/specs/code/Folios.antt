-- The portfolio that comes of what its work shares.
use Rattle.std.specs.Prelude.{Option}
use Rattle.std.specs.declared.alloc.Global.{Global}
use Rattle.std.specs.declared.sync.Arc.{Arc}
use Rattle.std.specs.Arc.{arc_value}
use Rattle.poets_value.specs.Listed.{Listed}
use Rattle.poets_value.specs.declared.value.Value.{Value}
use Rattle.poets_expr.specs.declared.env.Decls.{Decls}
use Rattle.poets_report.specs.declared.report.Report.{Report}
use Rattle.poets_command.specs.declared.call.Folio.{Folio}
use Rattle.poets_folio.specs.Rows.{HasRowsOf}
use Rattle.poets_folio.specs.declared.folio.Part.{Part}

-- the rows of the portfolio are those of the parts in order, by the declared names and the report
-- that are shared
abbrev pub HasRowsOfShared : Arc Decls Global → Arc Report Global → Listed (Option Value) → Listed Part → Folio → Type 0
HasRowsOfShared decls report args parts folio = HasRowsOf (arc_value decls) (arc_value report) args parts folio
