use Rattle.std.proofs.Common.{subst}
use Rattle.std.specs.Prelude.{remove}
use Rattle.poets_expr.specs.Env.{declared_of}
use Rattle.poets_report.specs.Folds.{events_of}
use Rattle.poets_report.specs.Reports.{report_of}
use Rattle.poets_live.specs.declared.watch.Move.TheVariants as M
use Rattle.poets_live.specs.Watching.{Leads, state_of}
use Rattle.poets_live.proofs.Following.{course_leads}
use Rattle.poets_live.proofs.Marks.{course_without}
use Rattle.poets_live.proofs.watch.Watch.without.Goals as goal

pub returns-clause-leads : goal.returns-clause-leads
returns-clause-leads g c =
    let d = declared_of c.args.decls.now.names in
    let q = report_of c.self.inside.report in
    let args = c.self.inside.args.items in
    let s = state_of c.self.inside.report args c.self.inside.course in
    let rest = events_of (remove c.args.log.now c.args.place) in
    let last = c.in_ok-course-3.course in
    subst (λ s. Leads d rest s.watch (M.Other last)) c.self.view_is
    (course_leads d rest s.watch last
    (course_without d q args c.args.log.now c.args.place c.requires.place c.in_ok-course.left c.in_ok-course.course c.in_ok-course-2.course last
    c.in_ok-course.ensures.course c.in_ok-course-2.ensures.goes_on c.in_ok-course-3.ensures.goes_on))
