use Rattle.std.proofs.Common.{arith, ap, ◌∙◌}
use Rattle.poets_meaning.specs.Arguments.{arguments}
use Rattle.poets_meaning.proofs.Arguments.{arguments-replace}
use Rattle.poets_norm.specs.Questions.{questions}
use Rattle.poets_norm.proofs.Asked.{questions-replace}
use Rattle.poets_cons.specs.Table.{contract_at}
use Rattle.poets_residue.proofs.derivation.Derivation.taken_on.Goals as goal

pub returns-clause-asks : goal.returns-clause-asks
returns-clause-asks g c =
    let q = ap questions (rw c.nodes.ensures.nodes at c.in_ok-replaced.ensures) ∙ questions-replace _ (contract_at c.args.arena.now c.args.then) in
    omega (arith, c.enter_normal.ensures.asks, q)

pub returns-clause-arguments : goal.returns-clause-arguments
returns-clause-arguments g c =
    let q = ap arguments (rw c.nodes.ensures.nodes at c.in_ok-replaced.ensures) ∙ arguments-replace _ (contract_at c.args.arena.now c.args.then) in
    omega (arith, c.enter_normal.ensures.arguments, q)
