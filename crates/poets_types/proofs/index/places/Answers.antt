use Rattle.poets_expr.specs.Env.{same_name}
use Rattle.poets_types.proofs.Tables.{position_from_more}
use Rattle.poets_types.proofs.index.places.Goals as goal

pub loop-place-preserved : goal.loop-place-preserved
loop-place-preserved c = λ q.
    let more = position_from_more (λ t. same_name t.name q) c.args.templates.now c.loop-place.place c.index-templates-place.result c.loop-place-test.true in
    let kept = c.loop-place.invariant q in
    let entered = c.in_ok-enter.ensures.names q in
    let here = c.index-templates-place.is in
    cc
