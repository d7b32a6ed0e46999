-- The sessions that tasks take.
use Rattle.poets_session.specs.declared.form.Form.{Form}
use Rattle.poets_session.specs.declared.form.Form.TheVariants as F
use Rattle.poets_words.specs.declared.mode.Task.{Task}
use Rattle.poets_words.specs.declared.mode.Task.TheVariants as T

-- the form of the sessions that a task takes
abbrev pub form_of : Task → Form
form_of T.Check = F.Book
form_of T.Run = F.Clerks
form_of T.Replay = F.Journal
form_of (T.Explain name) = F.Journal
form_of T.Export = F.Journal
