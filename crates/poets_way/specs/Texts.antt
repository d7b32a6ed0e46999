-- The texts of ways.
use Rattle.std.specs.Prelude.{ℕ, Bool, List, [], ◌∷◌, ◌++◌, map, codes, if◌then◌else◌}
use Rattle.std.specs.Fmt.{decimal}
use Rattle.poets_way.specs.Way.{Way}
use Rattle.poets_way.specs.Way as W

-- the letter of a side, `L` for the first one and `R` for the second
abbrev pub letter : Bool → ℕ
letter second = if second then 82 else 76

-- one letter for each side, `-` for none
abbrev pub sides_text : List Bool → List ℕ
sides_text [] = codes "-"
sides_text (side ∷ sides) = letter side ∷ map letter sides

-- the text of a way
abbrev pub way_text : Way → List ℕ
way_text W.Nothing = codes "done"
way_text (W.Enter w) = codes "enter " ++ way_text w
way_text (W.Take w) = codes "take " ++ way_text w
way_text (W.Left w) = codes "left " ++ way_text w
way_text (W.Right w) = codes "right " ++ way_text w
way_text (W.Both sides v u) =
    codes "both " ++ sides_text sides ++ codes " (" ++ way_text v ++ codes ") (" ++ way_text u ++ codes ")"
way_text (W.Then n v u) =
    codes "then " ++ decimal n ++ codes " (" ++ way_text v ++ codes ") (" ++ way_text u ++ codes ")"
