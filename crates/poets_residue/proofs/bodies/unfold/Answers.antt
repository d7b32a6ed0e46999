use Rattle.std.proofs.Common.{arith, ap, ◌∙◌}
use Rattle.poets_syntax.specs.Contract.{contract_of}
use Rattle.poets_meaning.specs.Arguments.{arguments}
use Rattle.poets_meaning.proofs.Arguments.{arguments-replace}
use Rattle.poets_norm.specs.Questions.{questions}
use Rattle.poets_norm.proofs.Asked.{questions-replace}
use Rattle.poets_residue.proofs.bodies.unfold.Goals as goal

pub returns-clause-asks : goal.returns-clause-asks
returns-clause-asks g c =
    let q = ap questions c.in_ok-body.ensures ∙ questions-replace _ (contract_of c.args.template.now.body) in
    omega (arith, c.enter_normal.ensures.asks, q, c.in_ok-pairs.ensures.asks)

pub returns-clause-questions : goal.returns-clause-questions
returns-clause-questions g c =
    let q = ap questions c.in_ok-body.ensures ∙ questions-replace _ (contract_of c.args.template.now.body) in
    grind (arith, c.enter_normal.ensures.questions, q, c.in_ok-pairs.ensures.asks)

pub returns-clause-arguments : goal.returns-clause-arguments
returns-clause-arguments g c =
    let q = ap arguments c.in_ok-body.ensures ∙ arguments-replace _ (contract_of c.args.template.now.body) in
    omega (arith, c.enter_normal.ensures.arguments, q, c.in_ok-pairs.ensures.asks)
