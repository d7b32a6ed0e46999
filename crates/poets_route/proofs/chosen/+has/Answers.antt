use Rattle.std.proofs.Common.{ap}
use Rattle.poets_syntax.specs.Contract.{contract_of}
use Rattle.poets_route.proofs.Choices.{has_last}
use Rattle.poets_route.proofs.chosen.+has.Goals as goal

pub returns-then-has : goal.returns-then-has
returns-then-has t c =
    has_last (contract_of c.args.choice.now) (contract_of c.in-Plus.front.value) (contract_of c.in-Plus.last.value) (contract_of c.deref.result.now)
    (contract_of c.args.term.now) c.has.result (ap contract_of c.in-Plus.is) (ap contract_of c.deref.ensures) c.if-has.true c.has.ensures
