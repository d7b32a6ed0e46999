-- What is promised of the parts of a start.
use Rattle.std.specs.Prelude.{◌≡◌, ℕ, ◌+◌, ◌≤◌, Bool, false, List, length, take, Result, Ok, Err}
use Rattle.poets_journal.specs.Texts.{AreRecords, IsClosed}
use Rattle.poets_journal.specs.declared.start.OpenFault.{OpenFault}
use Rattle.poets_journal.specs.declared.start.OpenFault.TheVariants.{Disk as DiskFailed, Damaged}
use Rattle.poets_journal.specs.declared.start.OpenFault.TheVariants.{Memory as NoMemory}

-- this holds of the record's number where one is damaged
abbrev pub OnNumber : {T : Type 0} → Result T OpenFault → (ℕ → Type 0) → Type 0
OnNumber (Ok made) P = Unit {0}
OnNumber (Err DiskFailed) P = Unit {0}
OnNumber (Err (Damaged number)) P = P number
OnNumber (Err NoMemory) P = Unit {0}

-- the front of a file was read further; where nothing came, all of it was read
pub record HasRead (more : Bool) (old new file : List ℕ) : Type 0 where
  pub front : old ≡ take (length old) file → new ≡ take (length new) file
  pub done : more ≡ false → length file ≤ length new

-- the bytes are records of the texts, and then the rest, which begins with a gate at that place
pub record IsOpened (bytes : List ℕ) (texts : List (List ℕ)) (gate : ℕ) : Type 0 where
  pub rest : List ℕ
  pub records : AreRecords bytes texts rest
  pub closed : IsClosed rest
  pub place : gate + length rest ≡ length bytes
