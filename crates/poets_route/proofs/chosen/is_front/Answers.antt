use Rattle.poets_syntax.specs.Contract.{contract_of}
use Rattle.poets_route.proofs.Joined.{front_not, front_same}
use Rattle.poets_route.proofs.chosen.is_front.Goals as goal

pub returns-in_default : goal.returns-in_default
returns-in_default c =
    front_not (contract_of c.args.a.now) (contract_of c.args.b.now) (contract_of c.args.term.now) c.in_default.ensures.none

pub returns : goal.returns
returns c =
    front_same (contract_of c.args.a.now) (contract_of c.args.b.now) (contract_of c.args.term.now) (contract_of c.in-Some.rest.now) c.same.result
    c.in-Some.ensures.some c.same.ensures.equal
