-- How it ends to write a text of a run that has a status of its own.
use Rattle.std.specs.Prelude.{◌≡◌, ℕ, List}
use Rattle.poets_lex.specs.Table.{Table}
use Rattle.poets_command.specs.Plain.{Entry}
use Rattle.poets_print.specs.Lines.{lines_from}
use Rattle.std.specs.Io.KnownBytes.{Appends}
use Rattle.poets_io.specs.Streams.{AppendsPart}
use Rattle.poets_writing.specs.Writing.{Change, HasFailed, Stream}
use Rattle.poets_writing.specs.declared.outcome.TheConstants.{NO_MEMORY, WRITE_FAULT}

-- the text of a run with this status was written to the sink, or as much of it as the sink or
-- memory allowed: the status with which the run then ends
pub data EndsWriting (status : ℕ) (text : List ℕ) (sink sink' : Stream) : (ended : ℕ) → Type 0 where
  -- it was written whole, without a fault
  Whole : Appends sink.bytes sink'.bytes text → sink'.faults ≡ sink.faults → EndsWriting status text sink sink' status
  -- the sink failed: a prefix of it was written
  Failed : AppendsPart sink.bytes sink'.bytes text → HasFailed sink sink' →
      EndsWriting status text sink sink' WRITE_FAULT
  -- out of memory between the lines of entries: a prefix of them was written, without a fault
  Memory : (names : Table) (number : ℕ) (h : List Entry) → text ≡ lines_from names number h →
      AppendsPart sink.bytes sink'.bytes text → sink'.faults ≡ sink.faults →
      EndsWriting status text sink sink' NO_MEMORY

-- the text was written, or as much of it as the status says
abbrev pub WritesAs : (answer : ℕ) → (text : List ℕ) → (sink : Change) → (status : ℕ) → Type 0
WritesAs answer text sink status = EndsWriting answer text sink.before sink.after status
