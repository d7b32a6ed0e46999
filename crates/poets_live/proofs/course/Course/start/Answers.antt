use Rattle.std.proofs.Common.{[], subst, sym}
use Rattle.poets_expr.specs.Env.{declared_of}
use Rattle.poets_report.specs.Reports.{report_of}
use Rattle.poets_live.specs.Courses.{AreMarks}
use Rattle.poets_live.proofs.Marks.{marks-none}
use Rattle.poets_live.proofs.course.Course.start.Goals as goal

pub returns-clause-course : goal.returns-clause-course
returns-clause-course g c =
    let d = declared_of c.args.decls.now.names in
    let q = report_of c.args.report.now in
    record {
      stands = c.in_ok-fold.ensures.stands;
      marks = subst (λ marks. AreMarks d q c.args.args.now.items [] marks 0) (sym c.new.ensures) (marks-none d q c.args.args.now.items);
    }
