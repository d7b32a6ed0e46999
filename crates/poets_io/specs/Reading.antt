-- How the reading of a source ends.
use Rattle.std.specs.Prelude.{ℕ, ◌+◌, List, Option, Result, IsErrOf}
use Rattle.poets_value.specs.Listed.{Listed}
use Rattle.poets_io.specs.declared.faults.ReadFault.{ReadFault}
use Rattle.poets_io.specs.declared.faults.ReadFault.TheVariants as F
use Rattle.poets_io.specs.Streams.{LosesFront, GivesAll}

-- what is read: a text, or why there is none
abbrev pub ReadResult : Type 0
ReadResult = Result (Listed ℕ) ReadFault

-- this holds where the source failed
abbrev pub OnFailed : ReadResult → Type 0 → Type 0
OnFailed result P = IsErrOf result F.Failed → P

-- this holds where the source gave more bytes than the limit
abbrev pub OnTooLong : ReadResult → Type 0 → Type 0
OnTooLong result P = IsErrOf result F.TooLong → P

-- this holds where the read was out of memory
abbrev pub OnMemory : ReadResult → Type 0 → Type 0
OnMemory result P = IsErrOf result F.Memory → P

-- the text has all bytes that were left, and none is left now; of a source that does not tell its
-- bytes it says nothing
abbrev pub GivesWhole : Option (List ℕ) → Option (List ℕ) → Listed ℕ → Type 0
GivesWhole old new text = GivesAll old new text.items

-- the bytes left lost a prefix, which is longer than the limit, by at most a block
abbrev pub LosesPast : (limit block : ℕ) → Option (List ℕ) → Option (List ℕ) → Type 0
LosesPast limit block old new = LosesFront (limit + 1) (limit + block) old new
