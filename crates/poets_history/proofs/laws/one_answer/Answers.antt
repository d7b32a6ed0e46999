use Rattle.poets_history.proofs.Histories.{one_answer}
use Rattle.poets_history.proofs.laws.one_answer.Goals as goal

pub returns : goal.returns
returns c = one_answer
