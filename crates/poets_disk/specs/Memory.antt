-- What contracts see of a disk in memory.
use Rattle.std.specs.Prelude.{◌≡◌, ◌≢◌, ℕ, ◌+◌, ◌<◌, ◌≤◌, ◌⊎◌, nat_lt, Some, if◌then◌else◌}
use Rattle.std.specs.Prelude.{List, [], ◌∷◌, ◌++◌, length, take, map, replicate, All, Contains}
use Rattle.poets_value.specs.Limits.{longest_text}
use Rattle.poets_io.specs.Causes.{counted}
use Rattle.poets_disk.specs.Disks.{Seen, IsTorn, over}

-- a call of `write` or `sync`
pub data DiskCall : Type 0 where
  -- the piece was written from that place on
  wrote : ℕ → List ℕ → DiskCall
  -- a write of so many bytes from that place on failed
  failed_write : ℕ → ℕ → DiskCall
  -- the file was synced
  synced : DiskCall
  -- a sync failed
  failed_sync : DiskCall

-- a disk in memory: the bytes that it was made with, its calls since then, the numbers of those
-- that fail, counted from 1, and how many faults there were
pub record MemoryFile : Type 0 where
  pub first : List ℕ
  pub calls : List DiskCall
  pub fails : List ℕ
  pub faults : ℕ

-- what a read gives after a call
abbrev pub held_after : List ℕ → DiskCall → List ℕ
held_after held (wrote at piece) = over at piece held
held_after held (failed_write at count) = held
held_after held synced = held
held_after held failed_sync = held

-- what a read gives after calls
abbrev pub held_by : List ℕ → List DiskCall → List ℕ
held_by held [] = held
held_by held (call ∷ calls) = held_by (held_after held call) calls

-- what a read gives now
abbrev pub held_now : MemoryFile → List ℕ
held_now m = held_by m.first m.calls

-- an image that a torn write makes of one of these
abbrev pub TornOf : (List ℕ → Type 0) → ℕ → ℕ → List ℕ → Type 0
TornOf left at count image = (whole : List ℕ) × left whole × IsTorn at count whole image

-- the images after a call
abbrev pub left_after : List ℕ → (List ℕ → Type 0) → DiskCall → List ℕ → Type 0
left_after held left (wrote at piece) image = (image ≡ over at piece held) ⊎ TornOf left at (length piece) image
left_after held left (failed_write at count) image = left image ⊎ TornOf left at count image
left_after held left synced image = image ≡ held
left_after held left failed_sync image = left image

-- the images after calls
abbrev pub left_by : List ℕ → (List ℕ → Type 0) → List DiskCall → List ℕ → Type 0
left_by held left [] image = left image
left_by held left (call ∷ calls) image = left_by (held_after held call) (left_after held left call) calls image

-- the disk as it is seen: a moment for each of its calls, and one before them
abbrev pub seen_of : MemoryFile → Seen
seen_of m = record {
  bytes = Some (held_now m);
  clock = length m.calls;
  images = λ moment image. left_by m.first (λ whole. whole ≡ m.first) (take moment m.calls) image;
}

-- how many bytes were written by calls
abbrev pub written_by : List DiskCall → ℕ
written_by [] = 0
written_by (wrote at piece ∷ calls) = length piece + written_by calls
written_by (failed_write at count ∷ calls) = written_by calls
written_by (synced ∷ calls) = written_by calls
written_by (failed_sync ∷ calls) = written_by calls

-- the most calls that it keeps
abbrev pub most_calls : ℕ
most_calls = 300_000

-- the next call is one of those that fail, or there is no room for it
abbrev pub NextFails : MemoryFile → Type 0
NextFails m = Contains m.fails (length m.calls + 1) ⊎ (most_calls ≤ length m.calls)

-- a write of so many bytes from that place on goes past the longest file, or past the room for what
-- was written
abbrev pub PassesRoom : MemoryFile → ℕ → ℕ → Type 0
PassesRoom m at count = (longest_text < at + count) ⊎ (longest_text < written_by m.calls + count)

-- the write fails
abbrev pub WriteFails : MemoryFile → ℕ → ℕ → Type 0
WriteFails m at count = NextFails m ⊎ PassesRoom m at count

-- the calls and one more, where there is room for it
abbrev pub kept_with : List DiskCall → DiskCall → List DiskCall
kept_with calls call = if nat_lt (length calls) most_calls then calls ++ call ∷ [] else calls

-- the disk after a call
abbrev pub after_call : DiskCall → MemoryFile → MemoryFile
after_call call m = record m { calls = m.calls ++ call ∷ [] }

-- the disk after a call that failed
abbrev pub after_failed : DiskCall → MemoryFile → MemoryFile
after_failed call m = record m { calls = kept_with m.calls call; faults = counted m.faults }

-- the calls up to the last successful sync, and those after it
pub record AreSplit (calls before after : List DiskCall) : Type 0 where
  pub whole : calls ≡ before ++ after
  pub sync : (before ≡ []) ⊎ ((front : List DiskCall) × (before ≡ front ++ synced ∷ []))
  pub last : All (λ call. call ≢ synced) after

-- the call, with this byte for each that it wrote
abbrev pub filled : ℕ → DiskCall → DiskCall
filled byte (wrote at piece) = wrote at (replicate (length piece) byte)
filled byte (failed_write at count) = failed_write at count
filled byte synced = synced
filled byte failed_sync = failed_sync

-- this is what a read gave after the last successful sync, or, if there was none, when the disk was
-- made
pub record WasSynced (first : List ℕ) (calls : List DiskCall) (image : List ℕ) : Type 0 where
  pub before : List DiskCall
  pub after : List DiskCall
  pub split : AreSplit calls before after
  pub is : image ≡ held_by first before

-- this is what a read gives, with one byte for each that was written since the last successful sync
pub record IsFilled (byte : ℕ) (first : List ℕ) (calls : List DiskCall) (image : List ℕ) : Type 0 where
  pub before : List DiskCall
  pub after : List DiskCall
  pub split : AreSplit calls before after
  pub is : image ≡ held_by (held_by first before) (map (filled byte) after)
