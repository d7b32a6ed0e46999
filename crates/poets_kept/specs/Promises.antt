-- What a run with a disk promises.
use Rattle.std.specs.Prelude.{◌≡◌, ℕ, ◌<◌, ◌≤◌, List, [], Some, length, String}
use Rattle.std.specs.declared.alloc.Global.{Global}
use Rattle.poets_io.specs.Causes.{Rose}
use Rattle.poets_lex.specs.Table.{Table}
use Rattle.poets_command.specs.Calls.{Call, history_of}
use Rattle.poets_command.specs.Plain.{Entry}
use Rattle.poets_command.specs.Said.{Statement}
use Rattle.poets_command.specs.Declarations.{book_from, reports_of}
use Rattle.poets_disk.specs.Disks.{Seen}
use Rattle.poets_journal.specs.Texts.{Texts, HoldsTexts, IsDamaged}
use Rattle.poets_recover.specs.Stored.{AreStoredCalls, IsRefusedText, length_of_all, most_stored}
use Rattle.poets_session.specs.declared.form.Form.{Form}
use Rattle.poets_session.specs.declared.form.Form.TheVariants as F
use Rattle.poets_session.specs.Sessions.{Text, IsNoSession, IsSession}
use Rattle.poets_top.specs.Promises.{AreNoForm}
use Rattle.poets_opening.specs.Limits.{longest}
use Rattle.poets_top.specs.Runs.{IsStatusOrMemory, NoFaultRose}
use Rattle.poets_writing.specs.Writing.{Change}
use Rattle.poets_writing.specs.declared.outcome.Outcome.{Outcome}
use Rattle.poets_writing.specs.declared.outcome.TheConstants.{DONE, NO_SESSION, TOO_LONG}
use Rattle.poets_keeping.specs.declared.outcome.KeptOutcome.{KeptOutcome}
use Rattle.poets_keeping.specs.declared.outcome.TheConstants.{DAMAGED, HOLDS_CALLS}
use Rattle.poets_kept.specs.Words.{AskForJournal}

-- the status and the history of a run with a disk, as an outcome
abbrev pub outcome_of : {D : Type 0} → KeptOutcome D → Outcome
outcome_of result = record { status = result.status; history = result.history }

-- the words are no form of a run with a disk
abbrev pub AreNoKeptForm : List (String Global) → Type 0
AreNoKeptForm words = AreNoForm words × ¬ (AskForJournal words)

-- the run ends with the status 0, and then this holds of how many calls are stored, and of its
-- history
abbrev pub IfKept : {D : Type 0} → KeptOutcome D → (ℕ → List Entry → Type 0) → Type 0
IfKept result P = result.status ≡ DONE → P result.stored (history_of result.history.items)

-- the status that a text deserves that is no session of the form
pub data DeservesUnread (form : Form) (text : Text) : (status : ℕ) → Type 0 where
  OfNoSession : length text ≤ longest → IsNoSession text form → DeservesUnread form text NO_SESSION
  OfTooLong : longest < length text → DeservesUnread form text TOO_LONG

-- the text is a session of the form, and this holds of its names and statements
pub record OfSession (form : Form) (text : Text) (P : Table → List Statement → Type 0) : Type 0 where
  pub short : length text ≤ longest
  pub names : Table
  pub statements : List Statement
  pub session : IsSession text form names statements
  pub holds : P names statements

-- the status that keeping deserves, by the text and the disk's file
pub data DeservesKeeping (text : Text) (file : List ℕ) : (status : ℕ) → Type 0 where
  Unread : {status : ℕ} → DeservesUnread F.Clerks text status → DeservesKeeping text file status
  Kept : OfSession F.Clerks text (λ names statements. HoldsTexts file []) → DeservesKeeping text file DONE
  HeldCalls :
      OfSession F.Clerks text (λ names statements. (texts : Texts) × HoldsTexts file texts × (0 < length texts)) →
      DeservesKeeping text file HOLDS_CALLS
  Damaged :
      OfSession F.Clerks text (λ names statements. (number : ℕ) × IsDamaged file number) →
      DeservesKeeping text file DAMAGED

-- the file holds texts that are calls of the book
pub record HoldsCalls (file : List ℕ) (names : Table) (statements : List Statement) : Type 0 where
  pub texts : Texts
  pub held : HoldsTexts file texts
  pub within : length_of_all texts ≤ most_stored
  pub calls : List Call
  pub after : Table
  pub stored : AreStoredCalls (book_from statements) (reports_of statements) names texts calls after

-- the file holds texts, one of which is refused
pub record HoldsRefused (file : List ℕ) (names : Table) (statements : List Statement) : Type 0 where
  pub texts : Texts
  pub held : HoldsTexts file texts
  pub number : ℕ
  pub refused : IsRefusedText (book_from statements) (reports_of statements) names texts number

-- the status that recovering deserves, by the text and the disk's file
pub data DeservesRecovering (text : Text) (file : List ℕ) : (status : ℕ) → Type 0 where
  Unread : {status : ℕ} → DeservesUnread F.Book text status → DeservesRecovering text file status
  Recovered : OfSession F.Book text (HoldsCalls file) → DeservesRecovering text file DONE
  Refused : OfSession F.Book text (HoldsRefused file) → DeservesRecovering text file DAMAGED
  Damaged :
      OfSession F.Book text (λ names statements. (number : ℕ) × IsDamaged file number) →
      DeservesRecovering text file DAMAGED

-- the status that resuming deserves, by the text and the disk's file
pub data DeservesResuming (text : Text) (file : List ℕ) : (status : ℕ) → Type 0 where
  Unread : {status : ℕ} → DeservesUnread F.Clerks text status → DeservesResuming text file status
  Resumed : OfSession F.Clerks text (HoldsCalls file) → DeservesResuming text file DONE
  Refused : OfSession F.Clerks text (HoldsRefused file) → DeservesResuming text file DAMAGED
  Damaged :
      OfSession F.Clerks text (λ names statements. (number : ℕ) × IsDamaged file number) →
      DeservesResuming text file DAMAGED

-- where source and disk tell their bytes, and no count of faults rose, the run ends with the status
-- that it deserves, or it runs out of memory
abbrev pub EndsDeserved :
    (Deserves : Text → List ℕ → ℕ → Type 0) → (source sink : Change) → Seen → (faults faults' : ℕ) → (status : ℕ) →
    Type 0
EndsDeserved Deserves source sink disk faults faults' status =
    (text : Text) (file : List ℕ) (wanted : ℕ) → source.before.bytes ≡ Some text → disk.bytes ≡ Some file →
    Deserves text file wanted →
    NoFaultRose source.before.faults source.after.faults sink.before.faults sink.after.faults →
    (Rose faults faults' → ⊥) → IsStatusOrMemory wanted status
