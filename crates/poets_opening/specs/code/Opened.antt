-- What a text that is refused was answered by.
use Rattle.poets_session.specs.Sessions.{Text}
use Rattle.poets_session.specs.declared.form.Form.{Form}
use Rattle.poets_writing.specs.Outcomes.{Writes}
use Rattle.poets_writing.specs.Writing.{Change}
use Rattle.poets_writing.specs.declared.outcome.Outcome.{Outcome}
use Rattle.poets_opening.specs.Unread.{Gave, RefusesSource}

-- whatever source gave such a text, the line of the text's fault was written, as the outcome tells
abbrev pub RefusesEach : (Such : Text → Type 0) → Form → (sink : Change) → Outcome → Type 0
RefusesEach Such form sink outcome =
    (source : Change) (text : Text) → Gave source.before source.after text → Such text →
    Writes (RefusesSource form source.before source.after) sink outcome
