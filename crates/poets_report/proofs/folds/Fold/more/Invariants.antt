use Rattle.std.proofs.Common.{◌+◌, ◌*◌, ◌≤◌, take}
use Rattle.poets_expr.specs.Env.{declared_of}
use Rattle.poets_report.specs.Reports.{report_of}
use Rattle.poets_report.specs.Folds.{GoesOn}
use Rattle.poets_report.proofs.folds.Fold.more.Given as goal

abbrev pub invariant-loop-event : goal.invariant-loop-event
invariant-loop-event g l =
    GoesOn (declared_of l.decls.names) (report_of l.report) (take l.event-index l.events) l.fn.self l.self
    × (l.asks ≤ l.fn.asks + 2 * l.event-index)
    × (l.fn.asks ≤ l.asks)
