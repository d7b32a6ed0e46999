-- What is due for a run, and how it ends.
use Rattle.std.specs.Prelude.{◌≡◌, ℕ, ◌+◌, ◌≤◌, ◌<◌, ◌⊎◌, List, [], length, Option, Some}
use Rattle.poets_io.specs.Causes.{Rose}
use Rattle.poets_io.specs.Streams.{GivesAll, LosesFront}
use Rattle.poets_lex.specs.Table.{Table}
use Rattle.poets_command.specs.Plain.{Entry}
use Rattle.poets_command.specs.Said.{Statement}
use Rattle.poets_session.specs.Sessions.{Text, IsSession, IsNoSession}
use Rattle.poets_session.specs.Refusals.{Refusal, IsRefused}
use Rattle.poets_session.specs.Texts.{refusal_text}
use Rattle.poets_opening.specs.Limits.{block, longest, too_long_text}
use Rattle.poets_words.specs.declared.mode.Mode.{Mode}
use Rattle.poets_words.specs.declared.mode.Mode.TheVariants as M
use Rattle.poets_top.specs.Checking.{ChecksBook}
use Rattle.poets_top.specs.Demonstrating.{IsDemonstration}
use Rattle.poets_top.specs.Running.{RunsScripts}
use Rattle.poets_top.specs.Replaying.{ReplaysJournal}
use Rattle.poets_top.specs.Explaining.{ExplainsJournal}
use Rattle.poets_top.specs.Exporting.{ExportsJournal}
use Rattle.poets_writing.specs.Writing.{Stream, HasFailed, IsWritten}
use Rattle.poets_top.specs.Tasks.{form_of}
use Rattle.poets_words.specs.declared.mode.Task.{Task}
use Rattle.poets_words.specs.declared.mode.Task.TheVariants as T
use Rattle.poets_writing.specs.declared.outcome.TheConstants.{DONE, NO_MEMORY, NO_SESSION}
use Rattle.poets_writing.specs.declared.outcome.TheConstants.{READ_FAULT, TOO_LONG}

-- what a task makes of a session
abbrev pub IsMade : Task → Table → List Statement → List Entry → List ℕ → Type 0
IsMade T.Check names statements = ChecksBook statements
IsMade T.Run names statements = RunsScripts names statements
IsMade T.Replay names statements = ReplaysJournal names statements
IsMade (T.Explain name) names statements = ExplainsJournal name names statements
IsMade T.Export names statements = ExportsJournal names statements

-- what is due for a text that was read: the status, the history, and the text to be written
pub data IsAnswerTo (text : Text) (task : Task) : (status : ℕ) → List Entry → List ℕ → Type 0 where
  -- a session
  Made :
      {names : Table} {statements : List Statement} {h : List Entry} {written : List ℕ} →
      IsSession text (form_of task) names statements → IsMade task names statements h written →
      IsAnswerTo text task DONE h written
  -- no session: the line of its first fault
  Refused : {names : Table} {r : Refusal} → IsRefused text (form_of task) names r →
      IsAnswerTo text task NO_SESSION [] (refusal_text names r)

-- what is due for a source that was like this before the run, and like that after it
pub data IsResult (task : Task) (source source' : Stream) : (status : ℕ) → List Entry → List ℕ → Type 0 where
  -- it was read to its end
  Read :
      {text written : List ℕ} {status : ℕ} {h : List Entry} →
      GivesAll source.bytes source'.bytes text → length text ≤ longest → IsAnswerTo text task status h written →
      IsResult task source source' status h written
  -- it gave more bytes than a session may have; they come in blocks, so that at most a block too
  -- many was taken
  TooLong : LosesFront (longest + 1) (longest + block) source.bytes source'.bytes →
      IsResult task source source' TOO_LONG [] too_long_text

-- how a run ends, by its source and its sink before and after
pub data IsEnding (task : Task) (source source' sink sink' : Stream) : (status : ℕ) → List Entry → Type 0 where
  -- the source had no fault, and its result was written, or as much of it as the sink or memory
  -- allowed
  Answered :
      {status : ℕ} {h : List Entry} →
      source'.faults ≡ source.faults → IsWritten (IsResult task source source') sink sink' status h →
      IsEnding task source source' sink sink' status h
  -- the source failed, and nothing was written
  ReadFailed :
      HasFailed source source' → LosesFront 0 longest source.bytes source'.bytes → sink' ≡ sink →
      IsEnding task source source' sink sink' READ_FAULT []

-- how a run ends that was asked for a task with a text, or for a demonstration
pub data Ends (source source' sink sink' : Stream) (status : ℕ) (h : List Entry) : Mode → Type 0 where
  OfTask : {task : Task} → IsEnding task source source' sink sink' status h →
      Ends source source' sink sink' status h (M.Read task)
  -- a demonstration reads nothing
  OfDemo : {sales : ℕ} → source' ≡ source → IsWritten (IsDemonstration sales) sink sink' status h →
      Ends source source' sink sink' status h (M.Demo sales)

-- the status that a text deserves
pub data Deserves (task : Task) (text : Text) : (status : ℕ) → Type 0 where
  OfSession : {names : Table} {statements : List Statement} → length text ≤ longest →
      IsSession text (form_of task) names statements → Deserves task text DONE
  OfNoSession : length text ≤ longest → IsNoSession text (form_of task) → Deserves task text NO_SESSION
  OfTooLong : longest < length text → Deserves task text TOO_LONG

-- the status that a run deserves: for a task that of the text that the source has left, where it
-- tells it; for a demonstration 0
pub data DeservesRun (left : Option Text) : Mode → (status : ℕ) → Type 0 where
  OfTask : {task : Task} {text : Text} {status : ℕ} → left ≡ Some text → Deserves task text status →
      DeservesRun left (M.Read task) status
  OfDemo : {sales : ℕ} → DeservesRun left (M.Demo sales) DONE

-- the status is the wanted one, or that of "out of memory"
abbrev pub IsStatusOrMemory : (wanted status : ℕ) → Type 0
IsStatusOrMemory wanted status = (status ≡ wanted) ⊎ (status ≡ NO_MEMORY)

-- neither the source's count of faults rose nor the sink's
pub record NoFaultRose (read read' write write' : ℕ) : Type 0 where
  pub source : Rose read read' → ⊥
  pub sink : Rose write write' → ⊥
