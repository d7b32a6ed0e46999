-- Histories on a disk.
use Rattle.std.specs.Prelude.{◌≡◌, ◌≢◌, ℕ, ◌+◌, ◌≤◌, ◌⊎◌, List, [], ◌∷◌, ◌++◌, codes, length}
use Rattle.std.specs.Prelude.{option_map, IfSome}
use Rattle.std.specs.Fmt.{decimal}
use Rattle.poets_lex.specs.Table.{Table}
use Rattle.poets_command.specs.Calls.{calls_of}
use Rattle.poets_command.specs.Plain.{Entry}
use Rattle.poets_disk.specs.Disks.{Seen, MayLeave, GoesOn, During}
use Rattle.poets_journal.specs.Texts.{Texts, HoldsTexts, IsDamaged}
use Rattle.poets_journal.specs.Journals.{AllHold}
use Rattle.poets_journal.specs.Keeping.{HoldsFirst, HoldsFront}
use Rattle.poets_journal.specs.Starts.{StaysOrIsShort, with_gate}
use Rattle.poets_reread.specs.Reread.{texts_of_calls}

-- the texts of a history's calls
abbrev pub texts_of : Table → List Entry → Texts
texts_of names h = texts_of_calls names (calls_of h)

-- the disk's file holds the texts, where the disk tells its bytes
abbrev pub FileHolds : Seen → Texts → Type 0
FileHolds disk texts = IfSome disk.bytes (λ file. HoldsTexts file texts)

-- the record with the number is damaged in the disk's file, where the disk tells its bytes
abbrev pub FileIsDamaged : Seen → (number : ℕ) → Type 0
FileIsDamaged disk number = IfSome disk.bytes (λ file. IsDamaged file number)

-- nothing was done to the disk but that its journal was started, or begun to be: at each moment a
-- crash leaves what it may have left before the run, or at most one byte
pub record OnlyStarted (disk disk' : Seen) : Type 0 where
  pub time : GoesOn disk disk'
  pub during : During disk disk' (StaysOrIsShort disk disk')

-- a journal was started without a fault on a disk that held these texts: whatever a crash leaves
-- now holds them too, and a read gives what it gave, but for a closed gate in place of at most one
-- byte; where there are texts, a crash during the start left what it may have left before
pub record HeldTexts (disk disk' : Seen) (faults faults' : ℕ) (texts : Texts) : Type 0 where
  pub held : FileHolds disk texts
  pub all : AllHold disk' texts
  pub bytes : disk'.bytes ≡ option_map with_gate disk.bytes
  pub faultless : faults' ≡ faults
  pub still : texts ≢ [] → During disk disk' (MayLeave disk)

-- no journal was started, because the record with this number is damaged: nothing failed, and a
-- read gives what it gave
pub record FoundDamage (disk disk' : Seen) (faults faults' number : ℕ) : Type 0 where
  pub damaged : FileIsDamaged disk number
  pub bytes : disk'.bytes ≡ disk.bytes
  pub faultless : faults' ≡ faults

-- after the earlier texts, the first so many calls of the history are acknowledged
pub record AreAcknowledged (names : Table) (earlier : Texts) (disk disk' : Seen) (stored : ℕ) (h : List Entry) :
    Type 0 where
  pub within : stored ≤ length h
  -- a crash now leaves the earlier texts and those of these calls, or of these and the next one
  pub survive : (image : List ℕ) → MayLeave disk' image →
      HoldsFirst earlier (texts_of names h) stored image ⊎ HoldsFirst earlier (texts_of names h) (stored + 1) image
  -- and where the disk held the earlier texts before, a crash at any moment leaves these, and then
  -- those of the first calls of the history, however many
  pub during : AllHold disk earlier → During disk disk' (HoldsFront earlier (texts_of names h))

-- `refused: journal holds 4 calls`, and LF (10)
abbrev pub holds_line : (calls : ℕ) → List ℕ
holds_line calls = codes "refused: journal holds " ++ decimal calls ++ codes " calls" ++ 10 ∷ []

-- `refused: journal damaged at record 1`, and LF
abbrev pub damaged_line : (number : ℕ) → List ℕ
damaged_line number = codes "refused: journal damaged at record " ++ decimal number ++ 10 ∷ []
