-- Watches may be handed to another thread.
use denote.Param.Send.{IsSend, sendable}
use Rattle.std.proofs.Crossing.{crosses}
use Rattle.std.proofs.MapsCrossing as maps
use Rattle.poets_value.proofs.value.Value.TheSendSync as value
use Rattle.poets_expr.proofs.expr.Expr.TheLaws.TheKnot as expressions
use Rattle.poets_expr.proofs.expr.Op.TheSendSync as op
use Rattle.poets_report.specs.contracts.folds.Fold as Fold
use Rattle.poets_report.specs.contracts.report.Report as Report
use Rattle.poets_live.specs.contracts.course.Course as Course
use Rattle.poets_live.specs.contracts.watch.Watch as Watch
use Rattle.poets_live.specs.contracts.watches.Watches as Watches

fold_send : IsSend (Fold.the_field).row
fold_send = search (value.the_send, maps.crosses, crosses, sendable) depth 60 fits 20000

report_send : IsSend (Report.the_field).row
report_send = search (op.the_field_send, expressions.crosses, crosses, sendable) depth 60 fits 20000

course_send : IsSend (Course.the_field).row
course_send = search (fold_send, value.the_send, crosses, sendable) depth 60 fits 20000

watch_send : IsSend (Watch.the_field).row
watch_send = search (course_send, report_send, value.the_send, crosses, sendable) depth 60 fits 20000

pub watches_send : IsSend Watches.the_row
watches_send = search (watch_send, crosses, sendable) depth 60 fits 20000
