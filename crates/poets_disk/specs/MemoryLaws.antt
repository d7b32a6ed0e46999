-- What a read gives of a disk in memory is one of its images.
use Rattle.std.specs.Prelude.{◌≡◌, ℕ, List, [], ◌∷◌, length, take, Option, None, Some, refl}
use mathlib.Core.Path.{sym, subst, ap}
use mathlib.Core.Logic.{inl}
use Rattle.poets_disk.specs.Disks.{MayLeave}
use Rattle.poets_disk.specs.Memory.{DiskCall, wrote, failed_write, synced, failed_sync, MemoryFile}
use Rattle.poets_disk.specs.Memory.{held_after, held_by, left_after, left_by, seen_of}

pub held_left : (held : List ℕ) (left : List ℕ → Type 0) (calls : List DiskCall) → left held
    → left_by held left calls (held_by held calls)
held_left held left [] now = now
held_left held left (wrote at piece ∷ calls) now =
    held_left (held_after held (wrote at piece)) (left_after held left (wrote at piece)) calls (inl refl)
held_left held left (failed_write at count ∷ calls) now =
    held_left held (left_after held left (failed_write at count)) calls (inl now)
held_left held left (synced ∷ calls) now = held_left held (left_after held left synced) calls refl
held_left held left (failed_sync ∷ calls) now = held_left held (left_after held left failed_sync) calls now

abbrev value_of : Option (List ℕ) → List ℕ
value_of None = []
value_of (Some file) = file

take_whole : (calls : List DiskCall) → take (length calls) calls ≡ calls
take_whole [] = refl
take_whole (c ∷ cs) = ap (λ l. c ∷ l) (take_whole cs)

pub held_is_left : (m : MemoryFile) (file : List ℕ) → (seen_of m).bytes ≡ Some file → MayLeave (seen_of m) file
held_is_left m file is =
    let left : List ℕ → Type 0 = λ whole. whole ≡ m.first in
    let same : held_by m.first m.calls ≡ file = ap value_of is in
    subst (λ f. left_by m.first left (take (length m.calls) m.calls) f) same
    (subst (λ cs. left_by m.first left cs (held_by m.first m.calls)) (sym (take_whole m.calls))
    (held_left m.first left m.calls refl))

abbrev is_told : Option (List ℕ) → Type 0
is_told None = ⊥
is_told (Some file) = Unit {0}

pub some_is_not_none : (file : List ℕ) → Some file ≡ None → ⊥
some_is_not_none file is = subst is_told is tt
