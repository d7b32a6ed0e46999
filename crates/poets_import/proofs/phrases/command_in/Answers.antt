use Rattle.std.proofs.Common.{Err, ap}
use Rattle.std.proofs.lemmas.Result.{err_from_is_err_and}
use Rattle.poets_command.specs.Said.{Command}
use Rattle.poets_import.proofs.OneWay.{one_said_sentence}
use Rattle.poets_import.proofs.Unsaid.{handed_on}
use Rattle.poets_import.proofs.phrases.command_in.Goals as goal

pub returns-in_err-statement-clause-none : goal.returns-in_err-statement-clause-none
returns-in_err-statement-clause-none c = λ e x after h.
    let told = err_from_is_err_and c.from_residual.result c.from_residual.ensures.1 in
    c.in_err-statement.ensures.none (ap Err (handed_on told.1 told.2 e)) (Command x) after h

pub returns-in_default-clause-none : goal.returns-in_default-clause-none
returns-in_default-clause-none c = λ e x after h.
    c.in_default.ensures.none x (one_said_sentence c.in_ok-statement.ensures.said h).0
