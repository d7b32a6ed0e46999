-- Which answers are written to a sink, by its change and the outcome.
use Rattle.std.specs.Prelude.{List}
use Rattle.poets_command.specs.Calls.{history_of}
use Rattle.poets_command.specs.Said.{Statement}
use Rattle.poets_session.specs.Sessions.{Text}
use Rattle.poets_session.specs.declared.session.Session.{Session}
use Rattle.poets_words.specs.declared.mode.Task.{Task}
use Rattle.poets_top.specs.Runs.{IsAnswerTo, IsEnding}
use Rattle.poets_top.specs.Tasks.{form_of}
use Rattle.poets_top.specs.code.Sessions.{IsSessionOf}
use Rattle.poets_writing.specs.Outcomes.{Writes}
use Rattle.poets_writing.specs.Writing.{Change}
use Rattle.poets_writing.specs.declared.outcome.Outcome.{Outcome}

-- from whatever text the session was read for the task, the answer was written to the sink, as the
-- outcome tells
abbrev pub AnswersSession : Task → Session → (sink : Change) → Outcome → Type 0
AnswersSession task session sink outcome =
    (text : Text) (statements : List Statement) → IsSessionOf (form_of task) text statements session →
    Writes (IsAnswerTo text task) sink outcome

-- a run that was asked for the task ended with the outcome, by the changes of its source and its
-- sink
abbrev pub EndsTask : Task → (source sink : Change) → Outcome → Type 0
EndsTask task source sink outcome =
    IsEnding task source.before source.after sink.before sink.after outcome.status (history_of outcome.history.items)
