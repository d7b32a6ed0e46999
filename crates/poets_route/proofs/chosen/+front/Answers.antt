use Rattle.std.proofs.Common.{ap}
use Rattle.poets_syntax.specs.Contract.{contract_of}
use Rattle.poets_route.proofs.Joined.{front_none}
use Rattle.poets_route.proofs.Made.{none_as}
use Rattle.poets_route.proofs.chosen.+front.Goals as goal

pub returns-in-Par-clause-none : goal.returns-in-Par-clause-none
returns-in-Par-clause-none t c =
    none_as c.front-in-Par.result
    (front_none (contract_of c.args.term.now) (contract_of c.args.second.now) (contract_of c.in-Par.a.value) (contract_of c.in-Par.b.value)
    (contract_of c.in_ok-rest.rest.now) (contract_of c.deref-in-Par.result.now) (contract_of c.deref.result.now)
    (ap contract_of c.in-Par.is) (ap contract_of c.deref-in-Par.ensures) (ap contract_of c.deref.ensures) c.in_ok-rest.ensures.some) c.front-in-Par.ensures.none
