use Rattle.std.proofs.Common.{◌≡◌, refl, ◌∙◌, ap}
use Rattle.poets_command.specs.Calls.{history_of}
use Rattle.poets_top.specs.Checking.{book_text}
use Rattle.poets_top.specs.Runs.{IsAnswerTo}
use Rattle.poets_words.specs.declared.mode.Task.TheVariants as T
use Rattle.poets_writing.proofs.Written.{IsWritten-line, IsWritten-nothing}
use Rattle.poets_top.proofs.checking.check.Goals as goal

pub returns-in-Ok : goal.returns-in-Ok
returns-in-Ok g c = λ text statements session.
    let line : c.as_str.result.now ≡ book_text statements = c.as_str.ensures.value ∙ c.in-Ok.ensures statements session.holds in
    IsWritten-line (IsAnswerTo text T.Check) _ _ 0 c.write_line.result.status _ c.as_str.result.now (ap history_of c.write_line.ensures.history)
    (IsAnswerTo.Made session.is (record { none = refl; line = line })) c.write_line.ensures.line

pub returns-in-Err : goal.returns-in-Err
returns-in-Err g c = λ text statements session.
    IsWritten-nothing (IsAnswerTo text T.Check) _ _ c.without_history.result.status _ refl c.without_history.ensures.status (ap history_of c.without_history.ensures.history)
