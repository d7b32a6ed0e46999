use Rattle.poets_report.proofs.Existence.{every_answer}
use Rattle.poets_report.proofs.laws.every_answer.Goals as goal

pub returns : goal.returns
returns c = every_answer
