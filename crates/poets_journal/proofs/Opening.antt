-- How the parts of a start join.
use Rattle.std.proofs.Common.{◌≡◌, ℕ, List, Option, IfSome, Result, Ok, Err}
use Rattle.poets_journal.specs.Texts.{IsDamaged}
use Rattle.poets_journal.specs.code.Opens.{OnNumber}
use Rattle.poets_journal.specs.declared.start.OpenFault.{OpenFault}
use Rattle.poets_journal.specs.declared.start.OpenFault.TheVariants.{Disk as DiskFailed, Damaged, Memory as NoMemory}
use Rattle.poets_journal.proofs.Starting.{same_file}

-- what is damaged of the bytes that were read is damaged of the file
pub on_number_damaged : {T : Type 0} (bytes : Option (List ℕ)) (r : Result T OpenFault) (list : List ℕ) → IfSome bytes (λ file. list ≡ file) → OnNumber r (IsDamaged list) → OnNumber r (λ number. IfSome bytes (λ file. IsDamaged file number))
on_number_damaged bytes (Ok made) list same d = tt
on_number_damaged bytes (Err DiskFailed) list same d = tt
on_number_damaged bytes (Err (Damaged number)) list same d = same_file (λ file. IsDamaged file number) bytes list same d
on_number_damaged bytes (Err NoMemory) list same d = tt

-- no number is told
pub on_number_never : {T : Type 0} (r : Result T OpenFault) (P : ℕ → Type 0) → OnNumber r (λ number. ⊥) → OnNumber r P
on_number_never (Ok made) P d = tt
on_number_never (Err DiskFailed) P d = tt
on_number_never (Err (Damaged number)) P d = absurd d
on_number_never (Err NoMemory) P d = tt
