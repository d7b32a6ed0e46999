-- How the call `run` ends, of which `keep`, `recover` and `resume` are no words: a rule for each
-- exit status. `Runs` says the same part by part.
use Rattle.std.specs.Prelude.{◌≡◌, ◌≢◌, ℕ, ◌+◌, List, []}
use Rattle.std.specs.Io.KnownBytes.{Appends}
use Rattle.poets_io.specs.Streams.{AppendsPart, LosesFront}
use Rattle.poets_lex.specs.Table.{Table}
use Rattle.poets_command.specs.Plain.{Entry}
use Rattle.poets_command.specs.Said.{Statement}
use Rattle.poets_print.specs.Lines.{history_text}
use Rattle.poets_session.specs.Refusals.{Refusal, IsRefused}
use Rattle.poets_session.specs.Sessions.{Text, IsSession}
use Rattle.poets_session.specs.Texts.{refusal_text}
use Rattle.poets_words.specs.Words.{AskFor, IsCommandForm}
use Rattle.poets_words.specs.declared.mode.Mode.TheVariants as M
use Rattle.poets_words.specs.declared.mode.Task.{Task}
use Rattle.poets_writing.specs.Writing.{Change, HasFailed}
use Rattle.poets_opening.specs.Limits.{block, longest, too_long_text}
use Rattle.poets_opening.specs.Unread.{Gave}
use Rattle.poets_top.specs.Demonstrating.{IsDemonstrated}
use Rattle.poets_top.specs.Runs.{IsMade}
use Rattle.poets_top.specs.Tasks.{form_of}

-- what the words ask for was made: this is its history, and this is to be written
pub data WasMade (words : List (List ℕ)) (source : Change) : List Entry → (text : List ℕ) → Type 0 where
  -- of the session that the source gave
  OfSession :
      (task : Task) {read : Text} {h : List Entry} {text : List ℕ} (names : Table) (statements : List Statement) →
      AskFor words (M.Read task) → Gave source.before source.after read →
      IsSession read (form_of task) names statements → IsMade task names statements h text →
      WasMade words source h text
  -- of a demonstration, for which nothing is read
  OfDemo :
      (sales : ℕ) {h : List Entry} {text : List ℕ} →
      AskFor words (M.Demo sales) → source.after ≡ source.before → IsDemonstrated sales h text →
      WasMade words source h text

-- the source gave a text that is no session of the form that is asked for; this is the line of its
-- first fault
pub data WasRefused (words : List (List ℕ)) (source : Change) : (line : List ℕ) → Type 0 where
  OfText :
      (task : Task) {read : Text} {r : Refusal} (names : Table) →
      AskFor words (M.Read task) → Gave source.before source.after read → IsRefused read (form_of task) names r →
      WasRefused words source (refusal_text names r)

-- the source gave more bytes than a session may have; they come in blocks, so that at most a block
-- too many was taken
pub record WasTooLong (words : List (List ℕ)) (source : Change) : Type 0 where
  pub task : Task
  pub asked : AskFor words (M.Read task)
  pub front : LosesFront (longest + 1) (longest + block) source.before.bytes source.after.bytes
  pub faultless : source.after.faults ≡ source.before.faults

-- the text that belongs to the run, and the run's history
pub data IsRunText (words : List (List ℕ)) (source : Change) : List Entry → (text : List ℕ) → Type 0 where
  Made : {h : List Entry} {text : List ℕ} → WasMade words source h text → IsRunText words source h text
  Refused : {line : List ℕ} → WasRefused words source line → IsRunText words source [] line
  TooLong : WasTooLong words source → IsRunText words source [] too_long_text

-- the text was written whole, without a fault
pub record WasWritten (sink : Change) (text : List ℕ) : Type 0 where
  pub whole : Appends sink.before.bytes sink.after.bytes text
  pub faultless : sink.after.faults ≡ sink.before.faults

-- memory ran out; this is the history that is handed out
pub data RanOut (words : List (List ℕ)) (source sink : Change) : List Entry → Type 0 where
  -- before anything was read or written
  Unread : source.after ≡ source.before → sink.after ≡ sink.before → RanOut words source sink []
  -- before anything was written
  Unwritten :
      (task : Task) → AskFor words (M.Read task) → source.after.faults ≡ source.before.faults →
      sink.after ≡ sink.before → RanOut words source sink []
  -- between the lines of the history, of which a prefix was written, without a fault
  Between :
      {h : List Entry} (names : Table) → WasMade words source h (history_text names h) → h ≢ [] →
      AppendsPart sink.before.bytes sink.after.bytes (history_text names h) →
      sink.after.faults ≡ sink.before.faults → RanOut words source sink h

-- the words were given, the source and the sink changed like this, and the run ended with the
-- status and the history
pub data RunEnds (words : List (List ℕ)) (source sink : Change) : (status : ℕ) → List Entry → Type 0 where
  -- done, and the text was written whole
  Done :
      {h : List Entry} {text : List ℕ} → WasMade words source h text → WasWritten sink text →
      RunEnds words source sink 0 h
  -- the text was read whole and is not valid; the line of its first fault was written
  NoSession :
      {line : List ℕ} → WasRefused words source line → WasWritten sink line →
      RunEnds words source sink 1 []
  -- the words are no command form; nothing was read or written
  NoForm :
      ¬ (IsCommandForm words) → source.after ≡ source.before → sink.after ≡ sink.before →
      RunEnds words source sink 2 []
  -- out of memory
  NoMemory :
      {h : List Entry} → RanOut words source sink h →
      RunEnds words source sink 3 h
  -- reading failed, and nothing was written
  ReadFailed :
      (task : Task) → AskFor words (M.Read task) → HasFailed source.before source.after →
      LosesFront 0 longest source.before.bytes source.after.bytes → sink.after ≡ sink.before →
      RunEnds words source sink 4 []
  -- writing failed, and a prefix of the text that belongs to the run was written
  WriteFailed :
      {h : List Entry} {text : List ℕ} → IsRunText words source h text →
      AppendsPart sink.before.bytes sink.after.bytes text → HasFailed sink.before sink.after →
      RunEnds words source sink 5 h
  -- the text is too long; the line that says so was written
  TooLong :
      WasTooLong words source → WasWritten sink too_long_text →
      RunEnds words source sink 6 []
