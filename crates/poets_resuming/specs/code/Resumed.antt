-- How the parts of a run end that goes on with a journal, by the sessions of the code.
use Rattle.std.specs.Prelude.{ℕ, List}
use Rattle.poets_command.specs.Calls.{history_of}
use Rattle.poets_command.specs.Said.{Statement}
use Rattle.poets_disk.specs.Disks.{Seen}
use Rattle.poets_journal.specs.Texts.{Texts}
use Rattle.poets_session.specs.declared.form.Form.TheVariants as F
use Rattle.poets_session.specs.declared.session.Session.{Session}
use Rattle.poets_writing.specs.Writing.{Change}
use Rattle.poets_keeping.specs.Journals.{HeldTexts, OnlyStarted}
use Rattle.poets_keeping.specs.code.Ended.{IsReadFrom}
use Rattle.poets_keeping.specs.declared.outcome.KeptOutcome.{KeptOutcome}
use Rattle.poets_resuming.specs.Resuming.{ResumesSession}

module _ {D : Type 0} (seen : D → Seen) (faults : D → ℕ) where
  -- the journal was gone on with by the calls of the session, by the changes of the sink and the
  -- disk
  abbrev pub Resumes : Session → (sink : Change) → (disk : D) → KeptOutcome D → Type 0
  Resumes session sink disk result =
      (statements : List Statement) → IsReadFrom F.Clerks statements session →
      ResumesSession seen faults session.names statements sink.before sink.after disk result.disk
      result.status (history_of result.history.items) result.stored

  -- the same, whatever disk the journal was started on, which held these texts
  abbrev pub ResumesFrom : Session → Texts → (sink : Change) → (started : D) → KeptOutcome D → Type 0
  ResumesFrom session texts sink started result =
      (disk : D) → OnlyStarted (seen disk) (seen started) →
      HeldTexts (seen disk) (seen started) (faults disk) (faults started) texts → Resumes session sink disk result
