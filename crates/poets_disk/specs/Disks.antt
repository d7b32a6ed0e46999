-- What is seen of a disk, and what its calls do to it.
use Rattle.std.specs.Prelude.{◌≡◌, ℕ, ◌+◌, ◌-◌, ◌^◌, ◌≤◌, ◌↔◌, ◌⊎◌, max, List, ◌++◌, length, take}
use Rattle.std.specs.Prelude.{drop, Option, Some}

-- a disk at a moment: the bytes that a read gives, if the disk tells them, how many moments there
-- were so far, and the images of each, which are what a crash at that moment may leave
pub record Seen : Type 1 where
  pub bytes : Option (List ℕ)
  pub clock : ℕ
  pub images : ℕ → List ℕ → Type 0

-- a crash now may leave this
abbrev pub MayLeave : Seen → List ℕ → Type 0
MayLeave disk image = disk.images disk.clock image

-- a crash at a moment from that one on may have left this
pub record Since (disk : Seen) (start : ℕ) (image : List ℕ) : Type 0 where
  pub moment : ℕ
  pub late : start ≤ moment
  pub so_far : moment ≤ disk.clock
  pub left : disk.images moment image

-- time goes on: what a crash may have left at a moment so far stays as it was
pub record GoesOn (old new : Seen) : Type 0 where
  pub later : old.clock ≤ new.clock
  pub kept : (moment : ℕ) (image : List ℕ) → moment ≤ old.clock → old.images moment image → new.images moment image
  pub nothing_else : (moment : ℕ) (image : List ℕ) → moment ≤ old.clock → new.images moment image
      → old.images moment image

-- this holds of each image at each moment of the call
abbrev pub During : Seen → Seen → (List ℕ → Type 0) → Type 0
During old new P = (image : List ℕ) → Since new old.clock image → P image

-- the call changes nothing that a read gives, and adds no image
pub record Rests (old new : Seen) : Type 0 where
  pub time : GoesOn old new
  pub same : new.bytes ≡ old.bytes
  pub during : During old new (MayLeave old)

-- a crash leaves what a read gives
abbrev pub IsSure : Seen → Type 0
IsSure disk = (image : List ℕ) → MayLeave disk image → disk.bytes ≡ Some image

-- the bytes with a piece over them, and past their end, from a place on
abbrev pub over : ℕ → List ℕ → List ℕ → List ℕ
over at piece bytes = take at bytes ++ (piece ++ drop (at + length piece) bytes)

-- after a write of so many bytes that may have been cut short: any bytes in the range and past the
-- old end, an end between the old and the new one, and the same bytes elsewhere
pub record IsTorn (at count : ℕ) (old new : List ℕ) : Type 0 where
  pub before : take at new ≡ take at old
  pub after : drop (at + count) new ≡ drop (at + count) old
  pub no_shorter : length old ≤ length new
  pub no_longer : length new ≤ max (length old) (at + count)

-- what a write that may have been cut short made of what a crash may have left before it
pub record IsTornOf (old : Seen) (at count : ℕ) (image : List ℕ) : Type 0 where
  pub whole : List ℕ
  pub left : MayLeave old whole
  pub torn : IsTorn at count whole image

-- a write, which may have failed
pub record Writes (at : ℕ) (piece : List ℕ) (old new : Seen) : Type 0 where
  pub time : GoesOn old new
  pub during : During old new (IsTornOf old at (length piece))

-- the most bytes of a file
abbrev pub longest_file : ℕ
longest_file = 2 ^ 63 - 1

-- the buffer begins with so many bytes of the file, from a place on; none only where there is none,
-- or no room
pub record Gives (at : ℕ) (count : ℕ) (buf file : List ℕ) : Type 0 where
  pub within : count ≤ length file - at
  pub same : take count buf ≡ take count (drop at file)
  pub none : (count ≡ 0) ↔ ((length file ≤ at) ⊎ (length buf ≡ 0))
