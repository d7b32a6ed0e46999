use Rattle.poets_report.proofs.OneAnswers.{one_answer}
use Rattle.poets_report.proofs.laws.one_answer.Goals as goal

pub returns : goal.returns
returns c = one_answer
