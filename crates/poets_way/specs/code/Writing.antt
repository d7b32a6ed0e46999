-- A way that is written move by move.
use Rattle.std.specs.Prelude.{ℕ, Bool, true, false, List, [], ◌∷◌, ◌++◌, codes}
use Rattle.std.specs.Fmt.{decimal}
use Rattle.poets_way.specs.Moves.{Move}
use Rattle.poets_way.specs.Moves as M
use Rattle.poets_way.specs.Texts.{sides_text}

-- what is open where a part ends, the innermost first: of each part whether it is a first one,
-- behind which a second one begins
abbrev pub after_end : List Bool → List Bool
after_end [] = []
after_end (true ∷ parts) = false ∷ parts
after_end (false ∷ parts) = after_end parts

-- what is written where a part ends: the ends of all parts that end there, and the beginning of a
-- second part
abbrev pub end_text : List Bool → List ℕ
end_text [] = []
end_text (true ∷ parts) = codes ") ("
end_text (false ∷ parts) = codes ")" ++ end_text parts

-- what is open after a move
abbrev pub after_move : Move → List Bool → List Bool
after_move M.Nothing parts = after_end parts
after_move M.Enter parts = parts
after_move M.Take parts = parts
after_move M.Left parts = parts
after_move M.Right parts = parts
after_move (M.Both sides) parts = true ∷ parts
after_move (M.Then n) parts = true ∷ parts

-- what is written for a move
abbrev pub move_text : Move → List Bool → List ℕ
move_text M.Nothing parts = codes "done" ++ end_text parts
move_text M.Enter parts = codes "enter "
move_text M.Take parts = codes "take "
move_text M.Left parts = codes "left "
move_text M.Right parts = codes "right "
move_text (M.Both sides) parts = codes "both " ++ sides_text sides ++ codes " ("
move_text (M.Then n) parts = codes "then " ++ decimal n ++ codes " ("

-- what is written for some moves
abbrev pub moves_text : List Move → List Bool → List ℕ
moves_text [] parts = []
moves_text (m ∷ moves) parts = move_text m parts ++ moves_text moves (after_move m parts)
