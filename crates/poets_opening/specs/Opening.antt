-- A source that was opened, by its change and the session or outcome.
use Rattle.std.specs.Prelude.{List}
use Rattle.poets_command.specs.Calls.{history_of}
use Rattle.poets_command.specs.Said.{Statement}
use Rattle.poets_session.specs.Sessions.{Represents}
use Rattle.poets_session.specs.declared.form.Form.{Form}
use Rattle.poets_session.specs.declared.session.Session.{Session}
use Rattle.poets_writing.specs.Writing.{Change}
use Rattle.poets_writing.specs.declared.outcome.Outcome.{Outcome}
use Rattle.poets_opening.specs.Unread.{EndsUnread, GaveSession}

-- the source gave the session of the form that the code's session holds
abbrev pub Opens : Form → (source : Change) → Session → Type 0
Opens form source session =
    (statements : List Statement) × GaveSession source.before source.after form session.names statements
    × Represents statements session

-- the run ends without a session of the form, by the changes of its source and its sink
abbrev pub EndsWithout : Form → (source sink : Change) → Outcome → Type 0
EndsWithout form source sink outcome =
    EndsUnread form source.before source.after sink.before sink.after outcome.status (history_of outcome.history.items)
