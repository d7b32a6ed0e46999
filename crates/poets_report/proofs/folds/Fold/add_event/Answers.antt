use Rattle.std.proofs.Common.{◌∙◌, ap, subst}
use Rattle.std.proofs.lemmas.Result.{on_ok_weaker}
use Rattle.poets_expr.specs.Env.{declared_of}
use Rattle.poets_report.specs.Reports.{report_of}
use Rattle.poets_report.specs.Folds.{Changes}
use Rattle.poets_report.proofs.Steps.{brought_goes_on}
use Rattle.poets_report.proofs.folds.Fold.add_event.Goals as goal

pub returns-clause-stands : goal.returns-clause-stands
returns-clause-stands g c =
    on_ok_weaker c.set.result (λ changed.
    let same = c.change-change.ensures.same in
    brought_goes_on (declared_of c.args.decls.now.names) (report_of c.args.report.now) c.args.event.now c.args.self.now c.set.new.self c.change-change.result
    c.change-change.ensures.brings (subst (λ f. Changes c.change-change.result f.answer c.set.new.self.answer) same changed)
    (c.set.ensures.env ∙ ap (λ f. f.env) same) (c.set.ensures.start ∙ ap (λ f. f.start) same))
    c.set.ensures.ok
