-- What several reads or writes, one after another, do to the bytes of a source or sink that tells
-- them.
use Rattle.std.specs.Prelude.{◌≡◌, ℕ, ◌<◌, ◌≤◌, List, [], Option, None, Some, length, take}
use Rattle.std.specs.Io.KnownBytes.{Appends, Consumes}

-- the bytes held grew by a prefix of the piece, and not by all of it
pub record AppendsPart (old new : Option (List ℕ)) (piece : List ℕ) : Type 0 where
  pub taken : ℕ
  pub short : taken < length piece
  pub bytes : Appends old new (take taken piece)

-- the bytes left lost a prefix of at least `least` and at most `most` bytes
pub record LosesFront (least most : ℕ) (old new : Option (List ℕ)) : Type 0 where
  pub given : List ℕ
  pub enough : least ≤ length given
  pub few : length given ≤ most
  pub bytes : Consumes old new given

-- the bytes given are all that were left, and none is left now; of a source that does not tell its
-- bytes it says nothing
abbrev pub GivesAll : Option (List ℕ) → Option (List ℕ) → List ℕ → Type 0
GivesAll None new bs = Unit {0}
GivesAll (Some xs) new bs = (xs ≡ bs) × (new ≡ Some [])
