use Rattle.poets_session.proofs.LawsSaid.{read_once}
use Rattle.poets_session.proofs.laws.one_session.Goals as goal

pub returns : goal.returns
returns c = λ text form names others a b h k. read_once text names others a b h.read k.read
