-- The word `keep`.
use Rattle.std.specs.Prelude.{◌≡◌, ℕ, suc, ◌≤◌, ◌<◌, List, [], length, take, All, Some, slice_get}
use Rattle.std.specs.Prelude.{Option}
use mathlib.Core.List.{IsPrefix}
use Rattle.poets_io.specs.Causes.{Rose}
use Rattle.poets_lex.specs.Table.{Table}
use Rattle.poets_command.specs.Plain.{Command, Entry}
use Rattle.poets_command.specs.Calls.{own}
use Rattle.poets_command.specs.Said.{Statement}
use Rattle.poets_command.specs.Declarations.{book_from, reports_of}
use Rattle.poets_history.specs.Histories.{IsRightHistory}
use Rattle.poets_disk.specs.Disks.{Seen, MayLeave, During}
use Rattle.poets_journal.specs.Texts.{Texts, HoldsTexts}
use Rattle.poets_journal.specs.Journals.{AllHold}
use Rattle.poets_journal.specs.Keeping.{HoldsFront}
use Rattle.poets_print.specs.Lines.{history_text}
use Rattle.poets_session.specs.declared.form.Form.TheVariants as F
use Rattle.poets_session.specs.Sessions.{scripts_of}
use Rattle.poets_top.specs.Running.{IsHistoryOf, HasRun}
use Rattle.poets_writing.specs.Writing.{Stream}
use Rattle.poets_writing.specs.declared.outcome.TheConstants.{DONE, NO_MEMORY}
use Rattle.poets_keeping.specs.declared.outcome.TheConstants.{DAMAGED, DISK_FAULT, HOLDS_CALLS}
use Rattle.poets_keeping.specs.Journals.{AreAcknowledged, FileHolds, FoundDamage, HeldTexts}
use Rattle.poets_keeping.specs.Journals.{OnlyStarted}
use Rattle.poets_keeping.specs.Journals.{damaged_line, holds_line, texts_of}
use Rattle.poets_opening.specs.Unread.{EndsUnread, GaveSession}
use Rattle.poets_keeping.specs.Writing.{EndsWriting}

-- a right history in which the commands of each clerk are a prefix of his script, and there are no
-- others
pub record IsPartOf (statements : List Statement) (h : List Entry) : Type 0 where
  pub right : IsRightHistory (book_from statements) (reports_of statements) h
  pub own : (place : ℕ) (script : List Command) → slice_get (scripts_of statements) place ≡ Some script →
      IsPrefix (own (suc place) h) script
  pub clerks : All (λ e. (1 ≤ e.clerk) × (e.clerk ≤ length (scripts_of statements))) h

-- what comes of a session of clerks whose calls are kept: how many of them are acknowledged, the
-- status, the history, and the text that is to be written
pub data IsKeptAs (names : Table) (statements : List Statement) (disk disk' : Seen) (faults faults' : ℕ) :
    (stored status : ℕ) → List Entry → (text : List ℕ) → Type 0 where
  -- all calls are acknowledged
  Whole :
      {h : List Entry} → FileHolds disk [] → IsHistoryOf statements h →
      AreAcknowledged names [] disk disk' (length h) h →
      IsKeptAs names statements disk disk' faults faults' (length h) DONE h (history_text names h)
  -- the disk failed while calls were made: just the acknowledged ones have their lines
  Part :
      {h : List Entry} {stored : ℕ} → FileHolds disk [] → IsHistoryOf statements h →
      AreAcknowledged names [] disk disk' stored h → stored < length h → Rose faults faults' →
      IsKeptAs names statements disk disk' faults faults' stored DISK_FAULT h (history_text names (take stored h))
  -- the disk failed before any call
  NotStarted : OnlyStarted disk disk' → Rose faults faults' →
      IsKeptAs names statements disk disk' faults faults' 0 DISK_FAULT [] []
  -- the journal holds calls already
  HeldCalls :
      (texts : Texts) → OnlyStarted disk disk' → HeldTexts disk disk' faults faults' texts → 0 < length texts →
      IsKeptAs names statements disk disk' faults faults' 0 HOLDS_CALLS [] (holds_line (length texts))
  Damaged :
      (number : ℕ) → OnlyStarted disk disk' → FoundDamage disk disk' faults faults' number →
      IsKeptAs names statements disk disk' faults faults' 0 DAMAGED [] (damaged_line number)

module _ {D : Type 0} (seen : D → Seen) (faults : D → ℕ) where
  -- how a run ends that keeps the calls of a session, by its sink and its disk before and after
  pub data KeepsSession (names : Table) (statements : List Statement) (sink sink' : Stream) (disk disk' : D) :
      (status : ℕ) → List Entry → (stored : ℕ) → Type 0 where
    -- what came of the session was written, or as much of it as the sink or memory allowed
    Answered :
        {stored answer status : ℕ} {h : List Entry} {text : List ℕ} →
        IsKeptAs names statements (seen disk) (seen disk') (faults disk) (faults disk') stored answer h text →
        EndsWriting answer text sink sink' status →
        KeepsSession names statements sink sink' disk disk' status h stored
    -- out of memory before any call and any writing
    NoneMade :
        OnlyStarted (seen disk) (seen disk') → sink' ≡ sink →
        KeepsSession names statements sink sink' disk disk' NO_MEMORY [] 0
    -- out of memory once calls were made, before any writing: they are some of what the scripts ask
    -- for, or all
    PartMade :
        {stored : ℕ} {made : List Entry} →
        FileHolds (seen disk) [] → IsPartOf statements made →
        AreAcknowledged names [] (seen disk) (seen disk') stored made →
        (stored < length made → Rose (faults disk) (faults disk')) → sink' ≡ sink →
        KeepsSession names statements sink sink' disk disk' NO_MEMORY [] stored

  -- how a run ends that was asked to keep, by its source, its sink and its disk before and after
  pub data EndsKeeping (source source' sink sink' : Stream) (disk disk' : D) :
      (status : ℕ) → List Entry → (stored : ℕ) → Type 0 where
    -- the source gave no session of clerks, or memory was not enough to read it: the disk was not
    -- touched
    Unread :
        {status : ℕ} {h : List Entry} → EndsUnread F.Clerks source source' sink sink' status h → disk' ≡ disk →
        EndsKeeping source source' sink sink' disk disk' status h 0
    Read :
        {names : Table} {statements : List Statement} {stored status : ℕ} {h : List Entry} →
        GaveSession source source' F.Clerks names statements →
        KeepsSession names statements sink sink' disk disk' status h stored →
        EndsKeeping source source' sink sink' disk disk' status h stored

-- a session was run, and its calls are kept: what the source had left and the sink held before and
-- after, the disk before and after, how many calls are acknowledged, and the history
pub record HasKept (left left' held held' : Option (List ℕ)) (disk disk' : Seen) (stored : ℕ) (h : List Entry) :
    Type 0 where
  pub run : HasRun left left' held held' h
  pub stored_all : stored ≡ length h
  -- whatever a crash leaves now holds the texts of all calls
  pub kept : (image : List ℕ) → MayLeave disk' image → HoldsTexts image (texts_of run.names h)
  -- and where the disk held no call before, a crash at any moment of the run left the first calls,
  -- however many
  pub during : AllHold disk [] → During disk disk' (HoldsFront [] (texts_of run.names h))
