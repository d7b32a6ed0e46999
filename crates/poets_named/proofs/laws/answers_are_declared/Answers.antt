use Rattle.poets_named.proofs.WrittenAnswers.{answers_are_declared}
use Rattle.poets_named.proofs.laws.answers_are_declared.Goals as goal

pub returns : goal.returns
returns c = answers_are_declared
