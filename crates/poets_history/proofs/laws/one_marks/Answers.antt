use Rattle.poets_history.proofs.Owing.{one_marks}
use Rattle.poets_history.proofs.laws.one_marks.Goals as goal

pub returns : goal.returns
returns c = one_marks
