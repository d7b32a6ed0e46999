use Rattle.poets_engine.proofs.ShownResiduals.{legal_histories_show}
use Rattle.poets_engine.proofs.laws.legal_histories_show.Goals as goal

pub returns : goal.returns
returns c = legal_histories_show
