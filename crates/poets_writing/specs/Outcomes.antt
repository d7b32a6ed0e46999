-- What was written to a sink, by its change and the outcome.
use Rattle.std.specs.Prelude.{◌≡◌, ◌≢◌, ◌⊎◌, ℕ, ◌+◌, List, []}
use Rattle.std.specs.Io.KnownBytes.{Appends}
use Rattle.poets_io.specs.Streams.{AppendsPart}
use Rattle.poets_lex.specs.Table.{Table}
use Rattle.poets_command.specs.declared.call.Entry as code
use Rattle.poets_command.specs.Calls.{history_of}
use Rattle.poets_command.specs.Plain.{Entry}
use Rattle.poets_print.specs.Lines.{history_text, lines_from}
use Rattle.poets_writing.specs.Writing.{Change, HasFailed, IsWritten}
use Rattle.poets_writing.specs.declared.outcome.Outcome.{Outcome}
use Rattle.poets_writing.specs.declared.outcome.TheConstants.{DONE, NO_MEMORY, WRITE_FAULT}

-- what is asked for was written to the sink, or as much of it as the sink or memory allowed; the
-- outcome says which
abbrev pub Writes : (Is : (status : ℕ) → List Entry → (text : List ℕ) → Type 0) → (sink : Change) → Outcome → Type 0
Writes Is sink outcome = IsWritten Is sink.before sink.after outcome.status (history_of outcome.history.items)

-- the lines of the entries, numbered from 1
abbrev pub lines_of : Table → List code.Entry → List ℕ
lines_of names entries = history_text names (history_of entries)

-- the lines of entries that come after so many earlier ones, with numbers that go on from those
abbrev pub lines_after : Table → (earlier : ℕ) → List code.Entry → List ℕ
lines_after names earlier entries = lines_from names (earlier + 1) (history_of entries)

-- the text was written whole, without a fault, and the outcome has the wanted status
abbrev pub WritesWhole : (text : List ℕ) → (sink : Change) → (wanted : ℕ) → Outcome → Type 0
WritesWhole text sink wanted outcome =
    (outcome.status ≡ wanted) × Appends sink.before.bytes sink.after.bytes text
    × (sink.after.faults ≡ sink.before.faults)

-- the sink failed, and a part of the text was written
abbrev pub FailsToWrite : (text : List ℕ) → (sink : Change) → Outcome → Type 0
FailsToWrite text sink outcome =
    (outcome.status ≡ WRITE_FAULT) × AppendsPart sink.before.bytes sink.after.bytes text
    × HasFailed sink.before sink.after

-- memory ran out between the lines of the history, which has entries, and a part of the lines was
-- written, without a fault
abbrev pub RunsOutBetween : (lines : List ℕ) → List Entry → (sink : Change) → Outcome → Type 0
RunsOutBetween lines h sink outcome =
    (outcome.status ≡ NO_MEMORY) × (h ≢ []) × AppendsPart sink.before.bytes sink.after.bytes lines
    × (sink.after.faults ≡ sink.before.faults)

-- the history's lines were written whole; or the sink failed, or memory ran out, and a part of them
-- was written
abbrev pub WritesHistory : Table → List Entry → (sink : Change) → Outcome → Type 0
WritesHistory names h sink outcome =
    WritesWhole (history_text names h) sink DONE outcome
    ⊎ FailsToWrite (history_text names h) sink outcome
    ⊎ RunsOutBetween (history_text names h) h sink outcome

-- the line was written and the outcome has the wanted status; or the sink failed, and a part of the
-- line was written
abbrev pub WritesLine : (line : List ℕ) → (sink : Change) → (wanted : ℕ) → Outcome → Type 0
WritesLine line sink wanted outcome = WritesWhole line sink wanted outcome ⊎ FailsToWrite line sink outcome
