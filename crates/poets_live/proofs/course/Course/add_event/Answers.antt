use Rattle.std.proofs.Common.{◌++◌, ◌∷◌, [], ◌∙◌, ap, sym, subst}
use Rattle.poets_expr.specs.Env.{declared_of}
use Rattle.poets_report.specs.Reports.{report_of}
use Rattle.poets_report.specs.Folds.{StandsFor}
use Rattle.poets_live.specs.Courses.{AreMarks}
use Rattle.poets_live.proofs.Marks.{marks-passed}
use Rattle.poets_live.proofs.course.Course.add_event.Goals as goal

pub returns-clause-goes_on : goal.returns-clause-goes_on
returns-clause-goes_on g c = λ args events h.
    let d = declared_of c.args.decls.now.names in
    let q = report_of c.args.report.now in
    let old = c.args.self.now in
    let new = c.pass.new.self in
    let fold = sym c.pass.ensures.fold ∙ sym (ap (λ v. v.fold) c.self.view_is) in
    record {
      stands = c.in_ok-add_event.ensures.stands args events (subst (StandsFor d q args events) fold h.stands);
      marks = subst (λ v. AreMarks d q args (events ++ c.args.event.now ∷ []) v.marks v.since) (sym c.self.view_is)
          (marks-passed d q args events c.args.event.now old.fold.answer old.marks old.since new.marks new.since h.marks h.stands.answers c.in_ok-pass.ensures.ok);
    }
