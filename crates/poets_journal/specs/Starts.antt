-- How the start of a journal ends.
use Rattle.std.specs.Prelude.{◌≡◌, ◌⊎◌, ℕ, ◌≤◌, List, [], ◌∷◌, length, Result, Ok, Err, IfSome}
use Rattle.poets_io.specs.Causes.{Rose}
use Rattle.poets_disk.specs.Disks.{Seen, MayLeave}
use Rattle.poets_journal.specs.declared.start.Started.{Started}
use Rattle.poets_journal.specs.declared.start.StartFault.{StartFault}
use Rattle.poets_journal.specs.declared.start.StartFault.TheVariants.{Disk as DiskFailed, Damaged}
use Rattle.poets_journal.specs.declared.start.StartFault.TheVariants.{Memory as NoMemory}

-- the disk that comes back, whether or not a journal was started
abbrev pub disk_of : {D : Type 0} → Result (Started D) (StartFault D) → D
disk_of (Ok started) = started.journal.disk
disk_of (Err (DiskFailed disk)) = disk
disk_of (Err (Damaged disk number)) = disk
disk_of (Err (NoMemory disk)) = disk

-- the count of faults rose where the disk failed, and otherwise stayed as it was
abbrev pub HasStartCause : {D : Type 0} → ℕ → ℕ → Result (Started D) (StartFault D) → Type 0
HasStartCause before now (Ok started) = now ≡ before
HasStartCause before now (Err (DiskFailed disk)) = Rose before now
HasStartCause before now (Err (Damaged disk number)) = now ≡ before
HasStartCause before now (Err (NoMemory disk)) = now ≡ before

-- this holds of the record's number where one is damaged
abbrev pub OnDamaged : {D : Type 0} → Result (Started D) (StartFault D) → (ℕ → Type 0) → Type 0
OnDamaged (Ok started) P = Unit {0}
OnDamaged (Err (DiskFailed disk)) P = Unit {0}
OnDamaged (Err (Damaged disk number)) P = P number
OnDamaged (Err (NoMemory disk)) P = Unit {0}

-- an image is one of those at the start, or it has at most one byte, and then so has what a read
-- gives
abbrev pub StaysOrIsShort : (old new : Seen) → List ℕ → Type 0
StaysOrIsShort old new image = MayLeave old image ⊎ ((length image ≤ 1) × IfSome new.bytes (λ file. length file ≤ 1))

-- the file once a journal was started on it: a closed gate in place of at most one byte
abbrev pub with_gate : List ℕ → List ℕ
with_gate [] = 0 ∷ []
with_gate (byte ∷ []) = 0 ∷ []
with_gate (byte ∷ next ∷ rest) = byte ∷ next ∷ rest
