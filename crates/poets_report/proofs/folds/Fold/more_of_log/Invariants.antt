use Rattle.std.proofs.Common.{◌+◌, ◌*◌, ◌≤◌, take}
use Rattle.poets_expr.specs.Env.{declared_of}
use Rattle.poets_report.specs.Reports.{report_of}
use Rattle.poets_report.specs.Folds.{GoesOn, events_of}
use Rattle.poets_report.proofs.folds.Fold.more_of_log.Given as goal

abbrev pub invariant-loop-pair : goal.invariant-loop-pair
invariant-loop-pair g l =
    GoesOn (declared_of l.decls.names) (report_of l.report) (events_of (take l.pair-index l.log)) l.fn.self l.self
    × (l.asks ≤ l.fn.asks + 2 * l.pair-index)
    × (l.fn.asks ≤ l.asks)
