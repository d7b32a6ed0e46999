use Rattle.poets_command.proofs.AnswerTypes.{answers_have_types}
use Rattle.poets_command.proofs.laws.answers_have_types.Goals as goal

pub returns : goal.returns
returns c = answers_have_types
