use Rattle.poets_exchange.proofs.ReadBack.{exported_are_read_back}
use Rattle.poets_exchange.proofs.laws.exported_are_read_back.Goals as goal

pub returns : goal.returns
returns c = exported_are_read_back
