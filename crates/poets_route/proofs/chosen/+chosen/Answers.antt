use Rattle.std.proofs.Common.{ap}
use Rattle.poets_syntax.specs.Contract.{contract_of}
use Rattle.poets_way.specs.Trails.{way_at}
use Rattle.poets_route.proofs.Choices.{chooses_last}
use Rattle.poets_route.proofs.chosen.+chosen.Goals as goal

pub returns-in-Right-clause-way : goal.returns-in-Right-clause-way
returns-in-Right-clause-way t c =
    let trails = c.args.trails.now in
    chooses_last (contract_of c.args.choice.now) (contract_of c.in-Plus.front.value) (contract_of c.in-Plus.last.value) (contract_of c.deref-in-Right.result.now)
    (contract_of c.chosen-in-Right.result.0.now) (way_at trails c.args.way) (way_at trails c.in-Right.part) (way_at trails c.chosen-in-Right.result.1)
    (ap contract_of c.in-Plus.is) (ap contract_of c.deref-in-Right.ensures) c.in-Right.ensures.way c.chosen-in-Right.ensures.way
