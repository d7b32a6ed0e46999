use Rattle.std.proofs.Common.{take}
use Rattle.poets_expr.specs.Env.{declared_of}
use Rattle.poets_report.specs.Reports.{report_of}
use Rattle.poets_report.specs.Folds.{GoesOn}
use Rattle.poets_table.specs.Pieces.{joined}
use Rattle.poets_folio.proofs.folio.folded.Given as goal

abbrev pub invariant-loop-place : goal.invariant-loop-place
invariant-loop-place g l = GoesOn (declared_of l.decls.names) (report_of l.report) (joined (take l.place l.events.pieces)) l.fn.fold l.fold
