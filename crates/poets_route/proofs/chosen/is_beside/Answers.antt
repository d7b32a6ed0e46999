use Rattle.poets_syntax.specs.Contract.{contract_of}
use Rattle.poets_route.proofs.Choices.{refused}
use Rattle.poets_route.proofs.Joined.{beside_failure, beside_joined, beside_success}
use Rattle.poets_route.proofs.chosen.is_beside.Goals as goal

pub returns-then-is_failure : goal.returns-then-is_failure
returns-then-is_failure c =
    beside_failure (contract_of c.args.a.now) (contract_of c.args.b.now) (contract_of c.args.term.now) (c.is_failure.ensures.0 c.if-is_failure.true)

pub returns-then-is_done : goal.returns-then-is_done
returns-then-is_done c =
    beside_success (contract_of c.args.a.now) (contract_of c.args.b.now) (contract_of c.args.term.now) c.has.result (c.is_done.ensures.0 c.if-is_done.true) c.has.ensures

pub returns : goal.returns
returns c =
    beside_joined (contract_of c.args.a.now) (contract_of c.args.b.now) (contract_of c.args.term.now) c.is_front.result
    c.requires.grouped c.requires.hopeful c.requires.unfinished (refused c.is_failure.result c.is_failure.ensures c.if-is_failure.false)
    (refused c.is_done.result c.is_done.ensures c.if-is_done.false) c.is_front.ensures
