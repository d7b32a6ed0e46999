use Rattle.std.proofs.Common.{◌+◌, ◌*◌, ◌≤◌, take}
use Rattle.poets_expr.specs.Env.{declared_of}
use Rattle.poets_report.specs.Reports.{report_of}
use Rattle.poets_report.specs.Folds.{asked_by_event, events_of}
use Rattle.poets_live.specs.code.Courses.{CourseGoesOn, IsKind}
use Rattle.poets_live.proofs.course.Course.more_of_log.Given as goal

abbrev pub invariant-loop-pair : goal.invariant-loop-pair
invariant-loop-pair g l = record {
  goes_on : CourseGoesOn (declared_of l.decls.names) (report_of l.report) (events_of (take l.pair-index l.log)) l.fn.self l.self;
  kind : IsKind l.fn.self l.self;
  asks : l.asks ≤ l.fn.asks + asked_by_event l.fn.self.fold.answer * l.pair-index;
  rises : l.fn.asks ≤ l.asks;
}
