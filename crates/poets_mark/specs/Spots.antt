-- Lines and columns of a text.
use Rattle.std.specs.Prelude.{◌≡◌, ℕ, ◌+◌, ◌-◌, ◌≤◌, ◌⊎◌, List, length, take, count_by}
use Rattle.memchr.specs.Find.{Passes, Nowhere, is_byte}
use Rattle.poets_mark.specs.declared.spots.Spot.{Spot}

-- a line ends at the place: LF (10) is there
abbrev pub IsBreak : List ℕ → ℕ → Type 0
IsBreak text place = Passes (is_byte 10) text place

-- the line of the place begins here: at the beginning of the text or after an LF, and no line ends
-- from here up to the place
pub record IsLineBegin (text : List ℕ) (place begin : ℕ) : Type 0 where
  pub before : begin ≤ place
  pub first : (begin ≡ 0) ⊎ IsBreak text (begin - 1)
  pub unbroken : Nowhere (IsBreak text) begin place

-- the line of the place ends here: at an LF or at the end of the text, and no line ends from the
-- place up to here
pub record IsLineEnd (text : List ℕ) (place end : ℕ) : Type 0 where
  pub after : place ≤ end
  pub inside : end ≤ length text
  pub last : (end ≡ length text) ⊎ IsBreak text end
  pub unbroken : Nowhere (IsBreak text) place end

-- the line and the column of the spot's place, counted from 1
pub record IsSpot (text : List ℕ) (spot : Spot) : Type 0 where
  pub line : spot.line ≡ count_by (is_byte 10) (take spot.place text) + 1
  pub column : spot.column ≡ spot.place - spot.begin + 1
  pub begin : IsLineBegin text spot.place spot.begin
  pub end : IsLineEnd text spot.place spot.end
