-- The lines that show a spot.
use Rattle.std.specs.Prelude.{ℕ, ◌+◌, ◌-◌, min, max, ◌&&◌, ◌||◌, ◌==◌, nat_le, if◌then◌else◌, List}
use Rattle.std.specs.Prelude.{[], ◌∷◌, ◌++◌, map}
use Rattle.std.specs.Prelude.{take, drop, replicate, codes}
use Rattle.std.specs.Fmt.{decimal}
use Rattle.poets_mark.specs.declared.spots.Spot.{Spot}

-- how a byte is shown: a sign of ASCII that prints (32 to 126) as itself, a tab (9) and CR (13) as
-- a space (32), and any other as `?` (63)
abbrev pub shown : ℕ → ℕ
shown byte = if nat_le 32 byte && nat_le byte 126 then byte else if byte == 9 || byte == 13 then 32 else 63

-- the part of the line that is shown begins 20 bytes before the place, or where the line begins
abbrev pub shown_from : Spot → ℕ
shown_from spot = max spot.begin (spot.place - 20)

-- the part of the line that is shown ends 80 bytes after the place, or where the line ends
abbrev pub shown_to : Spot → ℕ
shown_to spot = min spot.end (spot.place + 80)

-- `line 6, column 3`, and LF (10)
abbrev pub place_line : Spot → List ℕ
place_line spot = codes "line " ++ decimal spot.line ++ codes ", column " ++ decimal spot.column ++ 10 ∷ []

-- the part of the line around the place, as it is shown, and LF
abbrev pub text_line : List ℕ → Spot → List ℕ
text_line text spot = map shown (take (shown_to spot - shown_from spot) (drop (shown_from spot) text)) ++ 10 ∷ []

-- a space for each byte that is shown before the place, `^` below the place, and LF
abbrev pub mark_line : Spot → List ℕ
mark_line spot = replicate (spot.place - shown_from spot) 32 ++ codes "^" ++ 10 ∷ []

-- the three lines
abbrev pub mark_text : List ℕ → Spot → List ℕ
mark_text text spot = place_line spot ++ text_line text spot ++ mark_line spot
