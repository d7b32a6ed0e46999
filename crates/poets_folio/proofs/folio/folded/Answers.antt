use Rattle.std.proofs.Common.{◌≤◌, length, sym, subst, arith, append-nil}
use Rattle.poets_expr.specs.Env.{declared_of}
use Rattle.poets_report.specs.Reports.{report_of}
use Rattle.poets_report.specs.Folds.{StandsFor}
use Rattle.poets_folio.proofs.Goings.{goes_on, goes_over}
use Rattle.poets_folio.proofs.folio.folded.Goals as goal

pub loop-place-init : goal.loop-place-init
loop-place-init g c = λ args events stands.
    subst (λ es. StandsFor (declared_of c.args.decls.now.names) (report_of c.args.report.now) args es c.args.fold) (sym (append-nil events)) stands

pub loop-place-preserved : goal.loop-place-preserved
loop-place-preserved g c =
    goes_on (declared_of c.args.decls.now.names) (report_of c.args.report.now) c.args.events.now.pieces c.args.fold c.loop-place.fold c.in_ok-fold.fold
    c.loop-place.place c.in-Some.piece.now c.in-Some.ensures.found c.loop-place.invariant c.in_ok-fold.ensures.stands

pub returns : goal.returns
returns g c =
    let count = c.piece_count-place-end.ensures.count in
    let over = c.loop-place-test.false in
    let end : length c.args.events.now.pieces ≤ c.loop-place.place = omega (arith, count, over) in
    goes_over (declared_of c.args.decls.now.names) (report_of c.args.report.now) c.args.events.now.pieces c.args.fold c.loop-place.fold c.loop-place.fold c.loop-place.place
    end c.loop-place.invariant
