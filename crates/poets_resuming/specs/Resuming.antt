-- The word `resume`.
use Rattle.std.specs.Prelude.{◌≡◌, ℕ, suc, ◌+◌, ◌≤◌, ◌<◌, List, [], ◌++◌, length, take, All, Some}
use Rattle.std.specs.Prelude.{slice_get, Option}
use mathlib.Core.List.{IsPrefix}
use Rattle.std.specs.Io.KnownBytes.{Appends}
use Rattle.poets_io.specs.Causes.{Rose}
use Rattle.poets_io.specs.Streams.{GivesAll}
use Rattle.poets_lex.specs.Table.{Table}
use Rattle.poets_command.specs.Plain.{Command, Entry}
use Rattle.poets_command.specs.Calls.{own}
use Rattle.poets_command.specs.Said.{Statement}
use Rattle.poets_command.specs.Declarations.{book_from, reports_of}
use Rattle.poets_history.specs.Histories.{IsRightHistory}
use Rattle.poets_disk.specs.Disks.{Seen, MayLeave, During}
use Rattle.poets_journal.specs.Texts.{Texts, HoldsTexts}
use Rattle.poets_journal.specs.Journals.{AllHold}
use Rattle.poets_journal.specs.Keeping.{HoldsFront}
use Rattle.poets_opening.specs.Unread.{EndsUnread, GaveSession}
use Rattle.poets_print.specs.Lines.{lines_from}
use Rattle.poets_recover.specs.Stored.{IsRefusedText}
use Rattle.poets_session.specs.declared.form.Form.TheVariants as F
use Rattle.poets_session.specs.Sessions.{Text, IsSession, scripts_of}
use Rattle.poets_writing.specs.Writing.{Stream}
use Rattle.poets_writing.specs.declared.outcome.TheConstants.{DONE, NO_MEMORY}
use Rattle.poets_keeping.specs.Journals.{AreAcknowledged, FileHolds, FoundDamage, HeldTexts}
use Rattle.poets_keeping.specs.Journals.{OnlyStarted}
use Rattle.poets_keeping.specs.Journals.{damaged_line, texts_of}
use Rattle.poets_keeping.specs.Recovering.{IsHistoryOfTexts}
use Rattle.poets_keeping.specs.Writing.{EndsWriting}
use Rattle.poets_keeping.specs.declared.outcome.TheConstants.{DAMAGED, DISK_FAULT}

-- the disk's file holds texts, and p is the history of their calls under the book
pub record WasRecovered (names : Table) (statements : List Statement) (disk : Seen) (texts : Texts) (after : Table)
    (p : List Entry) : Type 0 where
  pub held : FileHolds disk texts
  pub history : IsHistoryOfTexts names statements texts after p

-- the history h goes on after p: together they are a right history; in h the commands of each clerk
-- are his script, in order, and there are no others
pub record IsGoneOn (statements : List Statement) (p h : List Entry) : Type 0 where
  pub right : IsRightHistory (book_from statements) (reports_of statements) (p ++ h)
  pub own : (place : ℕ) (script : List Command) → slice_get (scripts_of statements) place ≡ Some script →
      own (suc place) h ≡ script
  pub clerks : All (λ e. (1 ≤ e.clerk) × (e.clerk ≤ length (scripts_of statements))) h

-- the history h goes on after p with a part of the scripts: in h the commands of each clerk are a
-- prefix of his script
pub record IsPartGoneOn (statements : List Statement) (p h : List Entry) : Type 0 where
  pub right : IsRightHistory (book_from statements) (reports_of statements) (p ++ h)
  pub own : (place : ℕ) (script : List Command) → slice_get (scripts_of statements) place ≡ Some script →
      IsPrefix (own (suc place) h) script
  pub clerks : All (λ e. (1 ≤ e.clerk) × (e.clerk ≤ length (scripts_of statements))) h

-- the lines of the history h, with numbers that go on from the entries of p; the table has the
-- names in the texts of p too
abbrev pub lines_behind : Table → (p h : List Entry) → List ℕ
lines_behind names p h = lines_from names (length p + 1) h

-- what comes of a session of clerks whose calls are made after those of a journal: how many of them
-- are acknowledged, the status, the session's own history, and the text that is to be written
pub data IsResumedAs (names : Table) (statements : List Statement) (disk disk' : Seen) (faults faults' : ℕ) :
    (stored status : ℕ) → List Entry → (text : List ℕ) → Type 0 where
  -- all calls are acknowledged
  Whole :
      (texts : Texts) {after : Table} {p h : List Entry} →
      WasRecovered names statements disk texts after p → IsGoneOn statements p h →
      AreAcknowledged after texts disk disk' (length h) h →
      IsResumedAs names statements disk disk' faults faults' (length h) DONE h (lines_behind after p h)
  -- the disk failed while calls were made: just the acknowledged ones have their lines
  Part :
      (texts : Texts) {after : Table} {p h : List Entry} {stored : ℕ} →
      WasRecovered names statements disk texts after p → IsGoneOn statements p h →
      AreAcknowledged after texts disk disk' stored h → stored < length h → Rose faults faults' →
      IsResumedAs names statements disk disk' faults faults' stored DISK_FAULT h (lines_behind after p (take stored h))
  -- a text that the journal holds is refused
  NoCall :
      (texts : Texts) {number : ℕ} → OnlyStarted disk disk' → HeldTexts disk disk' faults faults' texts →
      IsRefusedText (book_from statements) (reports_of statements) names texts number →
      IsResumedAs names statements disk disk' faults faults' 0 DAMAGED [] (damaged_line number)
  -- a record is not whole, or has no byte after it
  Damaged :
      (number : ℕ) → OnlyStarted disk disk' → FoundDamage disk disk' faults faults' number →
      IsResumedAs names statements disk disk' faults faults' 0 DAMAGED [] (damaged_line number)
  -- the disk failed before any call
  NotStarted :
      OnlyStarted disk disk' → Rose faults faults' →
      IsResumedAs names statements disk disk' faults faults' 0 DISK_FAULT [] []

module _ {D : Type 0} (seen : D → Seen) (faults : D → ℕ) where
  -- how a run ends that makes the calls of a session after those of a journal, by its sink and its
  -- disk before and after
  pub data ResumesSession (names : Table) (statements : List Statement) (sink sink' : Stream) (disk disk' : D) :
      (status : ℕ) → List Entry → (stored : ℕ) → Type 0 where
    -- what came of the session was written, or as much of it as the sink or memory allowed
    Answered :
        {stored answer status : ℕ} {h : List Entry} {text : List ℕ} →
        IsResumedAs names statements (seen disk) (seen disk') (faults disk) (faults disk') stored answer h text →
        EndsWriting answer text sink sink' status →
        ResumesSession names statements sink sink' disk disk' status h stored
    -- out of memory before any new call and any writing
    NoneMade :
        OnlyStarted (seen disk) (seen disk') → sink' ≡ sink →
        ResumesSession names statements sink sink' disk disk' NO_MEMORY [] 0
    -- out of memory once new calls were made, before any writing: they are some of what the scripts
    -- ask for, or all
    PartMade :
        (texts : Texts) {after : Table} {p made : List Entry} {stored : ℕ} →
        WasRecovered names statements (seen disk) texts after p → IsPartGoneOn statements p made →
        AreAcknowledged after texts (seen disk) (seen disk') stored made →
        (stored < length made → Rose (faults disk) (faults disk')) → sink' ≡ sink →
        ResumesSession names statements sink sink' disk disk' NO_MEMORY [] stored

  -- how a run ends that was asked to resume, by its source, its sink and its disk before and after
  pub data EndsResuming (source source' sink sink' : Stream) (disk disk' : D) :
      (status : ℕ) → List Entry → (stored : ℕ) → Type 0 where
    -- the source gave no session of clerks, or memory was not enough to read it: the disk was not
    -- touched
    Unread :
        {status : ℕ} {h : List Entry} → EndsUnread F.Clerks source source' sink sink' status h → disk' ≡ disk →
        EndsResuming source source' sink sink' disk disk' status h 0
    Read :
        {names : Table} {statements : List Statement} {stored status : ℕ} {h : List Entry} →
        GaveSession source source' F.Clerks names statements →
        ResumesSession names statements sink sink' disk disk' status h stored →
        EndsResuming source source' sink sink' disk disk' status h stored

-- the calls of a session were made after those of a journal: what the source had left and the sink
-- held before and after, the disk before and after, how many calls of the session are acknowledged,
-- and the session's own history
pub record HasResumed (left left' held held' : Option (List ℕ)) (disk disk' : Seen) (stored : ℕ) (h : List Entry) :
    Type 0 where
  -- the source was read to its end, and its bytes are the text of a session of clerks
  pub text : Text
  pub given : GivesAll left left' text
  pub names : Table
  pub statements : List Statement
  pub session : IsSession text F.Clerks names statements
  -- the disk's file holds texts, where the disk tells its bytes, and p is the history of their
  -- calls
  pub texts : Texts
  pub after : Table
  pub p : List Entry
  pub recovered : WasRecovered names statements disk texts after p
  -- the session's history goes on after p, and all its calls are stored
  pub history : IsGoneOn statements p h
  pub stored_all : stored ≡ length h
  -- the sink got its lines, with numbers that go on from p
  pub written : Appends held held' (lines_behind after p h)
  -- whatever a crash leaves now holds the earlier texts, and then those of the session's calls
  pub kept : (image : List ℕ) → MayLeave disk' image → HoldsTexts image (texts ++ texts_of after h)
  -- and if the disk held these texts before the run, a crash at any moment of it left them, and
  -- then those of the session's first calls, however many
  pub during : AllHold disk texts → During disk disk' (HoldsFront texts (texts_of after h))
