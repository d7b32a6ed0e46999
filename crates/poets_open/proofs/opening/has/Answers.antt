use Rattle.std.proofs.Common.{rules, tests, ◌∙◌}
use Rattle.std.proofs.lemmas.Iterator.{YieldsList-from_slice}
use Rattle.std.proofs.lemmas.Iterator.Search.{any_from_yields_List}
use Rattle.poets_expr.specs.Expression.{expression_of}
use Rattle.poets_open.specs.Next.{step_of, same_step}
use Rattle.poets_open.specs.code.Opened.{step}
use Rattle.poets_open.proofs.Opened.{list_any-map}
use Rattle.poets_open.proofs.opening.has.Goals as goal

pub returns : goal.returns
returns c =
    let steps = c.args.steps.now in
    let wanted = step c.args.binders.now (expression_of c.args.when.now) in
    any_from_yields_List (λ s. same_step (step_of s) wanted) _ _ _ c.any.ensures.ran (YieldsList-from_slice steps cc) (λ x b q k. search (rules, tests))
    ∙ list_any-map (λ t. same_step t wanted) step_of steps
