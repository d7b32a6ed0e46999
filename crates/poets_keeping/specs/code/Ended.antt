-- How the parts of a run end, by the sessions of the code.
use Rattle.std.specs.Prelude.{◌≡◌, ℕ, ◌≤◌, length, List, []}
use Rattle.poets_command.specs.Calls.{history_of}
use Rattle.poets_command.specs.Said.{Statement}
use Rattle.poets_opening.specs.Limits.{longest}
use Rattle.poets_writing.specs.declared.outcome.TheConstants.{DONE, NO_MEMORY}
use Rattle.poets_keeping.specs.declared.outcome.TheConstants.{DAMAGED}
use Rattle.poets_command.specs.Declarations.{book_from, reports_of}
use Rattle.poets_command.specs.Plain.{Entry}
use Rattle.poets_journal.specs.Texts.{Texts}
use Rattle.poets_lex.specs.Table.{Table}
use Rattle.poets_print.specs.Lines.{history_text}
use Rattle.poets_recover.specs.Stored.{IsRefusedText}
use Rattle.poets_keeping.specs.Journals.{damaged_line}
use Rattle.poets_disk.specs.Disks.{Seen}
use Rattle.poets_session.specs.declared.form.Form.{Form}
use Rattle.poets_session.specs.declared.form.Form.TheVariants as F
use Rattle.poets_session.specs.declared.session.Session.{Session}
use Rattle.poets_session.specs.Sessions.{HoldsText, IsSession, Represents, Text}
use Rattle.poets_writing.specs.Writing.{Change, Stream}
use Rattle.poets_keeping.specs.Keeping.{KeepsSession}
use Rattle.poets_keeping.specs.Recovering.{IsHistoryOfTexts, RecoversBook}
use Rattle.poets_keeping.specs.Writing.{EndsWriting}
use Rattle.poets_keeping.specs.declared.outcome.KeptOutcome.{KeptOutcome}

-- the session was read from some text of the form, which is not too long
pub record WasRead (form : Form) (session : Session) : Type 0 where
  pub text : Text
  pub short : length text ≤ longest
  pub holds : HoldsText text form session

-- the session was read as these statements
pub record IsReadFrom (form : Form) (statements : List Statement) (session : Session) : Type 0 where
  pub text : Text
  pub is : IsSession text form session.names statements
  pub holds : Represents statements session

module _ {D : Type 0} (seen : D → Seen) (faults : D → ℕ) where
  -- the calls of the session were kept, by the changes of the sink and the disk
  abbrev pub Keeps : Session → (sink : Change) → (disk : D) → KeptOutcome D → Type 0
  Keeps session sink disk result =
      (statements : List Statement) → IsReadFrom F.Clerks statements session →
      KeepsSession seen faults session.names statements sink.before sink.after disk result.disk
      result.status (history_of result.history.items) result.stored

  -- the calls of the journal were made under the session's book, by the changes of the sink and the
  -- disk
  abbrev pub Recovers : Session → (sink : Change) → (disk : D) → KeptOutcome D → Type 0
  Recovers session sink disk result =
      (statements : List Statement) → IsReadFrom F.Book statements session →
      RecoversBook seen faults session.names statements sink.before sink.after disk result.disk
      result.status (history_of result.history.items) result.stored

-- the texts were recovered under the session's book, by the change of the sink
pub data RecoversTexts (names : Table) (statements : List Statement) (texts : Texts) (sink sink' : Stream) :
    (status : ℕ) → List Entry → Type 0 where
  Whole :
      {status : ℕ} {after : Table} {h : List Entry} → IsHistoryOfTexts names statements texts after h →
      EndsWriting DONE (history_text after h) sink sink' status →
      RecoversTexts names statements texts sink sink' status h
  NoCall :
      {number status : ℕ} →
      IsRefusedText (book_from statements) (reports_of statements) names texts number →
      EndsWriting DAMAGED (damaged_line number) sink sink' status →
      RecoversTexts names statements texts sink sink' status []
  NotMade : sink' ≡ sink → RecoversTexts names statements texts sink sink' NO_MEMORY []

-- the texts were recovered under the book that was read, and are so many
abbrev pub RecoversFrom : {D : Type 0} → Session → Texts → (sink : Change) → KeptOutcome D → Type 0
RecoversFrom session texts sink result =
    (result.stored ≡ length texts)
    × ((statements : List Statement) → IsReadFrom F.Book statements session →
    RecoversTexts session.names statements texts sink.before sink.after result.status
    (history_of result.history.items))
