-- The word `recover`.
use Rattle.std.specs.Prelude.{◌≡◌, ℕ, ◌≤◌, List, [], length, Option}
use Rattle.std.specs.Io.KnownBytes.{Appends}
use Rattle.poets_io.specs.Causes.{Rose}
use Rattle.poets_lex.specs.Table.{Table}
use Rattle.poets_command.specs.Plain.{Entry}
use Rattle.poets_command.specs.Calls.{calls_of}
use Rattle.poets_command.specs.Said.{Statement}
use Rattle.poets_command.specs.Declarations.{book_from, reports_of}
use Rattle.poets_history.specs.Histories.{IsRightHistory}
use Rattle.poets_disk.specs.Disks.{Seen}
use Rattle.poets_io.specs.Streams.{GivesAll}
use Rattle.poets_journal.specs.Texts.{Texts}
use Rattle.poets_print.specs.Lines.{history_text}
use Rattle.poets_recover.specs.Stored.{AreStoredCalls, IsRefusedText, length_of_all, most_stored}
use Rattle.poets_session.specs.declared.form.Form.TheVariants as F
use Rattle.poets_session.specs.Sessions.{Text, IsSession}
use Rattle.poets_writing.specs.Writing.{Stream}
use Rattle.poets_writing.specs.declared.outcome.TheConstants.{DONE, NO_MEMORY}
use Rattle.poets_keeping.specs.declared.outcome.TheConstants.{DAMAGED, DISK_FAULT}
use Rattle.poets_keeping.specs.Journals.{FileHolds, FoundDamage, HeldTexts, OnlyStarted}
use Rattle.poets_keeping.specs.Journals.{damaged_line}
use Rattle.poets_opening.specs.Unread.{EndsUnread, GaveSession}
use Rattle.poets_keeping.specs.Writing.{EndsWriting}

-- the history's calls are those that the texts say; their new names get the next numbers of the
-- table, which is then the second one
pub record IsHistoryOfTexts (names : Table) (statements : List Statement) (texts : Texts) (after : Table)
    (h : List Entry) : Type 0 where
  pub stored : AreStoredCalls (book_from statements) (reports_of statements) names texts (calls_of h) after
  pub within : length_of_all texts ≤ most_stored
  pub right : IsRightHistory (book_from statements) (reports_of statements) h

-- what comes of a book whose journal is read: how many texts it holds, the status, the history, and
-- the text that is to be written
pub data IsRecoveredAs (names : Table) (statements : List Statement) (disk disk' : Seen) (faults faults' : ℕ) :
    (stored status : ℕ) → List Entry → (text : List ℕ) → Type 0 where
  Whole :
      (texts : Texts) {after : Table} {h : List Entry} →
      HeldTexts disk disk' faults faults' texts → IsHistoryOfTexts names statements texts after h →
      IsRecoveredAs names statements disk disk' faults faults' (length texts) DONE h (history_text after h)
  -- a text is refused
  NoCall :
      (texts : Texts) {number : ℕ} →
      HeldTexts disk disk' faults faults' texts →
      IsRefusedText (book_from statements) (reports_of statements) names texts number →
      IsRecoveredAs names statements disk disk' faults faults' (length texts) DAMAGED [] (damaged_line number)
  -- a record is not whole, or has no byte after it
  Damaged :
      (number : ℕ) → FoundDamage disk disk' faults faults' number →
      IsRecoveredAs names statements disk disk' faults faults' 0 DAMAGED [] (damaged_line number)
  -- the disk failed
  NotStarted : Rose faults faults' → IsRecoveredAs names statements disk disk' faults faults' 0 DISK_FAULT [] []

module _ {D : Type 0} (seen : D → Seen) (faults : D → ℕ) where
  -- how a run ends that makes the calls of a journal under a book, by its sink and its disk before
  -- and after
  pub data RecoversBook (names : Table) (statements : List Statement) (sink sink' : Stream) (disk disk' : D) :
      (status : ℕ) → List Entry → (stored : ℕ) → Type 0 where
    -- what came of the journal was written, or as much of it as the sink or memory allowed
    Answered :
        {stored answer status : ℕ} {h : List Entry} {text : List ℕ} →
        IsRecoveredAs names statements (seen disk) (seen disk') (faults disk) (faults disk') stored answer h text →
        EndsWriting answer text sink sink' status →
        RecoversBook names statements sink sink' disk disk' status h stored
    -- out of memory while the journal was started, or for a line
    NotRead : sink' ≡ sink → RecoversBook names statements sink sink' disk disk' NO_MEMORY [] 0
    -- out of memory while its calls were made, or for a line
    NotMade :
        (texts : Texts) → HeldTexts (seen disk) (seen disk') (faults disk) (faults disk') texts → sink' ≡ sink →
        RecoversBook names statements sink sink' disk disk' NO_MEMORY [] (length texts)

  -- how a run ends that was asked to recover, by its source, its sink and its disk before and after
  pub data EndsRecovering (source source' sink sink' : Stream) (disk disk' : D) :
      (status : ℕ) → List Entry → (stored : ℕ) → Type 0 where
    -- the source gave no book, or memory was not enough to read it: the disk was not touched
    Unread :
        {status : ℕ} {h : List Entry} → EndsUnread F.Book source source' sink sink' status h → disk' ≡ disk →
        EndsRecovering source source' sink sink' disk disk' status h 0
    Read :
        {names : Table} {statements : List Statement} {stored status : ℕ} {h : List Entry} →
        GaveSession source source' F.Book names statements → OnlyStarted (seen disk) (seen disk') →
        RecoversBook names statements sink sink' disk disk' status h stored →
        EndsRecovering source source' sink sink' disk disk' status h stored

-- a journal was recovered: what the source had left and the sink held before and after, the disk
-- before, how many texts it held, and the history
pub record HasRecovered (left left' held held' : Option (List ℕ)) (disk : Seen) (stored : ℕ) (h : List Entry) :
    Type 0 where
  -- the source was read to its end, and its bytes are the text of a book
  pub text : Text
  pub given : GivesAll left left' text
  pub names : Table
  pub statements : List Statement
  pub session : IsSession text F.Book names statements
  -- the disk's file holds texts, where the disk tells its bytes
  pub texts : Texts
  pub on_disk : FileHolds disk texts
  pub stored_all : stored ≡ length texts
  -- the history is right, and has the calls of these texts in their order
  pub after : Table
  pub history : IsHistoryOfTexts names statements texts after h
  -- the sink got its lines
  pub written : Appends held held' (history_text after h)
