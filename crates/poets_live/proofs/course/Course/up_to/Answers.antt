use Rattle.std.proofs.Common.{◌<◌, ◌*◌, ◌-◌, ◌∙◌, ap, refl, sym, subst, take, length, arith}
use Rattle.poets_expr.specs.Env.{declared_of}
use Rattle.poets_report.specs.Folds.{events_of}
use Rattle.poets_report.specs.Reports.{report_of}
use Rattle.poets_live.specs.Courses.{apart}
use Rattle.poets_live.specs.code.Courses.{IsCourse, carried_on}
use Rattle.poets_live.proofs.Marks.{course_up_to, length-events_of, marks_until}
use Rattle.poets_live.proofs.course.Course.up_to.Goals as goal

pub returns-clause-course : goal.returns-clause-course
returns-clause-course g c =
    let d = declared_of c.args.decls.now.names in
    let q = report_of c.args.report.now in
    let events = events_of c.args.log.now in
    let marks = c.self.inside.marks.items in
    let h = subst (λ v. IsCourse d q c.args.args.now.items events v) (sym c.self.view_is) c.requires.course in
    let count = c.marks_until-count.ensures ∙ ap (λ n. marks_until n c.args.place) c.len.ensures in
    let front = c.in_ok-marks.ensures ∙ ap (take c.marks_until-count.result) c.as_slice.ensures in
    let answer = c.in_ok-fold.ensures.answer ∙ ap (carried_on c.in_ok-start.start.answer) c.as_slice-2.ensures in
    let within : c.args.place < length events = let len = length-events_of c.args.log.now in let lt = c.requires.place in omega (arith, len, lt) in
    course_up_to d q c.args.args.now.items events c.args.place within marks c.self.inside.since h.marks c.in_ok-start.start c.in_ok-start.ensures.stands
    c.in_ok-fold.fold c.in_ok-marks.marks.items (c.args.place - c.marks_until-count.result * apart) c.marks_until-count.result c.in_ok-marks.marks.room
    count front refl (record { env = c.in_ok-fold.ensures.env; start = c.in_ok-fold.ensures.start; answer = answer })
