use Rattle.std.proofs.Common.{◌≡◌, [], map}
use Rattle.poets_syntax.specs.TypeOf.{Passes}
use Rattle.poets_syntax.specs.Typed.{in_use, check_new}
use Rattle.poets_types.specs.code.Indices.{book_in, reports_in}
use Rattle.poets_types.proofs.Checks.{answer_told}
use Rattle.poets_types.proofs.template.check_report.Goals as goal

pub returns : goal.returns
returns c =
    let new : check_new (in_use (book_in c.args.index.now) (reports_in c.args.index.now)) [] (map (λ p. p.name) c.args.report.now.params.items) ≡ Passes tt = rw c.as_slice.ensures at c.in_ok-params.ensures.passes in
    rw new (answer_told _ c.check_fold.result (rw (c.in_ok-params.ensures.list, c.as_slice.ensures) at c.check_fold.ensures))
