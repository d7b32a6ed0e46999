-- How an answer is written.
use Rattle.std.specs.Prelude.{◌≡◌, ◌≢◌, ℕ, ◌≤◌, List, [], Option}
use Rattle.std.specs.Io.KnownBytes.{Appends}
use Rattle.poets_io.specs.Causes.{Rose}
use Rattle.poets_io.specs.Streams.{AppendsPart}
use Rattle.poets_lex.specs.Table.{Table}
use Rattle.poets_command.specs.Plain.{Entry}
use Rattle.poets_print.specs.Lines.{history_text}
use Rattle.poets_writing.specs.declared.outcome.TheConstants.{DONE, NO_MEMORY, WRITE_FAULT}

-- a source or a sink: the bytes that it has left or holds, where it tells them, and its count of
-- faults
pub record Stream : Type 0 where
  pub bytes : Option (List ℕ)
  pub faults : ℕ

-- a sink that holds these bytes, where it tells them, and has this count of faults
abbrev pub stream : Option (List ℕ) → ℕ → Stream
stream bytes faults = record { bytes = bytes; faults = faults }

-- a source or a sink before a run and after it
pub record Change : Type 0 where
  pub before : Stream
  pub after : Stream

-- the change of a source or a sink, of which these tell its bytes and its count of faults
abbrev pub change : {A : Type 0} → (bytes : A → Option (List ℕ)) → (faults : A → ℕ) → (old new : A) → Change
change bytes faults old new =
    record { before = stream (bytes old) (faults old); after = stream (bytes new) (faults new) }

-- the count of faults rose, and did not fall
pub record HasFailed (old new : Stream) : Type 0 where
  pub rose : Rose old.faults new.faults
  pub later : old.faults ≤ new.faults

-- how writing an answer to a sink ends; the answer is a status, a history, and the text that is to
-- be written
pub data IsWritten (Is : (status : ℕ) → List Entry → (text : List ℕ) → Type 0) (sink sink' : Stream) :
    (status : ℕ) → List Entry → Type 0 where
  -- the text was written whole, without a fault
  Whole :
      {status : ℕ} {h : List Entry} {text : List ℕ} →
      Is status h text → Appends sink.bytes sink'.bytes text → sink'.faults ≡ sink.faults →
      IsWritten Is sink sink' status h
  -- the sink failed: a prefix of the text was written
  Failed :
      {status : ℕ} {h : List Entry} {text : List ℕ} →
      Is status h text → AppendsPart sink.bytes sink'.bytes text → HasFailed sink sink' →
      IsWritten Is sink sink' WRITE_FAULT h
  -- memory ran out between the lines of a history: a prefix of them was written, and not all,
  -- without a fault
  MemoryBetween :
      {h : List Entry} (names : Table) →
      Is DONE h (history_text names h) → h ≢ [] → AppendsPart sink.bytes sink'.bytes (history_text names h) →
      sink'.faults ≡ sink.faults → IsWritten Is sink sink' NO_MEMORY h
  -- memory ran out before all writing: nothing was written, and no history is handed out
  MemoryBefore : sink' ≡ sink → IsWritten Is sink sink' NO_MEMORY []
