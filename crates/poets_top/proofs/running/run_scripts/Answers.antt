use Rattle.std.proofs.Common.{refl, ap}
use Rattle.poets_command.specs.Calls.{history_of}
use Rattle.poets_session.specs.declared.form.Form.TheVariants as F
use Rattle.poets_top.specs.Runs.{IsAnswerTo}
use Rattle.poets_words.specs.declared.mode.Task.TheVariants as T
use Rattle.poets_writing.proofs.Written.{IsWritten-nothing, is_written}
use Rattle.poets_making.proofs.Fewness.{scripts_few-held}
use Rattle.poets_top.proofs.Owning.{IsHistoryOf-read}
use Rattle.poets_making.proofs.Taking.{session_taken, session_whole}
use Rattle.poets_top.proofs.running.run_scripts.Goals as goal

pub make_scripts-requires-clause-few : goal.make_scripts-requires-clause-few
make_scripts-requires-clause-few g c = λ _ _. let session = c.requires.1.1 in scripts_few-held F.Clerks c.requires.1.0 c.args.session.scripts.items session.is.valid.placed session.holds.scripts

pub make_scripts-requires-clause-whole : goal.make_scripts-requires-clause-whole
make_scripts-requires-clause-whole g c = λ _ _. let session = c.requires.1.1 in session_whole c.requires.0 c.requires.1.0 c.args.session session.is session.holds

pub make_scripts-requires-clause-taken : goal.make_scripts-requires-clause-taken
make_scripts-requires-clause-taken g c = λ _ _. let session = c.requires.1.1 in session_taken c.requires.0 c.requires.1.0 c.args.session session.is session.holds

pub returns-in-Ok : goal.returns-in-Ok
returns-in-Ok g c = λ text statements session.
    is_written (IsAnswerTo text T.Run) _ _ c.args.session.names c.write.result.status _ (history_of c.in-Ok.history.items) (ap (λ l. history_of l.items) c.write.ensures.history)
    (IsAnswerTo.Made session.is (record {
      history = IsHistoryOf-read statements c.args.session (history_of c.in-Ok.history.items) session.holds c.in-Ok.ensures.right c.in-Ok.ensures.scripts;
      lines = refl;
    }))
    c.write.ensures.lines

pub returns : goal.returns
returns g c = λ text statements session.
    IsWritten-nothing (IsAnswerTo text T.Run) _ _ c.without_history.result.status _ refl c.without_history.ensures.status (ap history_of c.without_history.ensures.history)
