use Rattle.poets_syntax.specs.Contract.{contract_of}
use Rattle.poets_cons.proofs.Standing.{stands_later}
use Rattle.poets_norm.proofs.normals.both.Goals as goal

pub returns-clause-first : goal.returns-clause-first
returns-clause-first c =
    stands_later c.enter_owned.new.arena c.enter_owned-2.new.arena c.enter_owned-2.ensures.grows c.in_ok-first.first (contract_of c.args.a) c.in_ok-first.ensures.stands
