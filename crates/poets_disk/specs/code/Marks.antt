-- The calls of a disk in memory as they are kept: what each was, and all bytes that were written,
-- piece after piece.
use Rattle.std.specs.Prelude.{◌≡◌, ◌≢◌, ℕ, ◌+◌, ◌≤◌, ◌⊎◌, vec_len, vec_capacity}
use Rattle.std.specs.Prelude.{List, [], ◌∷◌, ◌++◌, length, take, drop, All}
use Rattle.poets_value.specs.Limits.{longest_text}
use Rattle.poets_disk.specs.Memory.{DiskCall, wrote, failed_write, synced, failed_sync, held_by}
use Rattle.poets_disk.specs.Memory.{held_after, most_calls}
use Rattle.poets_disk.specs.Kept.{disk_calls}
use Rattle.poets_disk.specs.declared.memory.Mark.{Mark}
use Rattle.poets_disk.specs.declared.memory.Mark.TheVariants.{Wrote, FailedWrite, Synced}
use Rattle.poets_disk.specs.declared.memory.Mark.TheVariants.{FailedSync}
use Rattle.poets_disk.specs.declared.memory.MemoryDisk.TheInside.{Inside}

-- how many bytes the marks speak of
abbrev pub marked : List Mark → ℕ
marked [] = 0
marked (Wrote at count ∷ marks) = count + marked marks
marked (FailedWrite at count ∷ marks) = marked marks
marked (Synced ∷ marks) = marked marks
marked (FailedSync ∷ marks) = marked marks

-- the calls of a disk in memory as it keeps them: each write begins in the file as it then was, and
-- ends in the room
abbrev pub AreKept : List ℕ → List DiskCall → Type 0
AreKept held [] = length held ≤ longest_text
AreKept held (wrote at piece ∷ calls) =
    (at ≤ length held) × (at + length piece ≤ longest_text) × AreKept (held_after held (wrote at piece)) calls
AreKept held (failed_write at count ∷ calls) = AreKept held calls
AreKept held (synced ∷ calls) = AreKept held calls
AreKept held (failed_sync ∷ calls) = AreKept held calls

-- the file is what the calls made of it, and there is room for what may come
pub record HasRoom (m : Inside) : Type 0 where
  pub kept : AreKept m.first.items (disk_calls m.marks.items m.written.items)
  pub held : m.held.items ≡ held_by m.first.items (disk_calls m.marks.items m.written.items)
  pub pieces : marked m.marks.items ≡ vec_len m.written
  pub held_short : vec_len m.held ≤ longest_text
  pub held_room : longest_text ≤ vec_capacity m.held
  pub written_short : vec_len m.written ≤ longest_text
  pub written_room : longest_text ≤ vec_capacity m.written
  pub few : vec_len m.marks ≤ most_calls
  pub marks_room : most_calls ≤ vec_capacity m.marks

-- the first so many marks are those up to the last successful sync
pub record AreSplitAt (count : ℕ) (marks : List Mark) : Type 0 where
  pub within : count ≤ length marks
  pub sync : (count ≡ 0) ⊎ ((front : List Mark) × (take count marks ≡ front ++ Synced ∷ []))
  pub last : All (λ mark. mark ≢ Synced) (drop count marks)
