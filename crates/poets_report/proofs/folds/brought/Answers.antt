use Rattle.std.proofs.Common.{Some, ◌∙◌, ap}
use Rattle.std.specs.Prelude.{unwrap_or}
use Rattle.poets_expr.specs.Env.{declared_of}
use Rattle.poets_report.specs.Reports.{report_of, stage}
use Rattle.poets_report.proofs.Steps.{keyed_brings}
use Rattle.poets_report.proofs.folds.brought.Goals as goal

pub returns-in-Keyed-clause-brings : goal.returns-in-Keyed-clause-brings
returns-in-Keyed-clause-brings g c =
    let d = declared_of c.args.decls.now.names in
    let q = report_of c.args.report.now in
    let carried = c.unwrap_or-carried.ensures ∙ ap (λ r. unwrap_or r c.args.start.now) c.row.ensures in
    keyed_brings d q c.args.event.now c.args.scope.now c.args.start.now c.args.running.now c.in-Keyed.rows _ c.in-Keyed.is
    (λ args key under by. c.key_of-key.ensures.value args key under by)
    (λ args under. ap Some (c.stage-next-in-Keyed.ensures.value args (c.key_of-key.ensures.same ∙ under) ∙ ap (λ v. stage d q args v c.args.event.now) carried))
