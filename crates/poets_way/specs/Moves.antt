-- Ways in prefix form.
use Rattle.std.specs.Prelude.{◌≡◌, ℕ, Bool, List, [], ◌∷◌, ◌++◌}
use Rattle.poets_way.specs.Way.{Way}
use Rattle.poets_way.specs.Way as W
use Rattle.poets_way.specs.declared.way.Move.{Move as WayMove}
use Rattle.poets_way.specs.declared.way.Move.TheVariants as WM

-- the head of a way, without its parts
pub data Move : Type 0 where
  Nothing : Move
  Enter : Move
  Take : Move
  Left : Move
  Right : Move
  Both : List Bool → Move
  Then : ℕ → Move

-- the moves of a way: its head, and then those of its parts in their order
abbrev pub moves_of : Way → List Move
moves_of W.Nothing = Nothing ∷ []
moves_of (W.Enter w) = Enter ∷ moves_of w
moves_of (W.Take w) = Take ∷ moves_of w
moves_of (W.Left w) = Left ∷ moves_of w
moves_of (W.Right w) = Right ∷ moves_of w
moves_of (W.Both sides v u) = Both sides ∷ moves_of v ++ moves_of u
moves_of (W.Then n v u) = Then n ∷ moves_of v ++ moves_of u

-- the ways that a move and these ways make: the first of these are the parts of the move's way
abbrev pub put_before : Move → List Way → List Way
put_before Nothing ws = W.Nothing ∷ ws
put_before Enter (w ∷ ws) = W.Enter w ∷ ws
put_before Take (w ∷ ws) = W.Take w ∷ ws
put_before Left (w ∷ ws) = W.Left w ∷ ws
put_before Right (w ∷ ws) = W.Right w ∷ ws
put_before (Both sides) (v ∷ u ∷ ws) = W.Both sides v u ∷ ws
put_before (Then n) (v ∷ u ∷ ws) = W.Then n v u ∷ ws
put_before _ ws = ws

-- the ways that the moves are those of, one after the other
abbrev pub ways_in : List Move → List Way
ways_in [] = []
ways_in (m ∷ ms) = put_before m (ways_in ms)

-- the first of the ways
abbrev pub first_in : List Way → Way
first_in [] = W.Nothing
first_in (w ∷ ws) = w

-- the way that the moves are those of
abbrev pub way_in : List Move → Way
way_in ms = first_in (ways_in ms)

-- the moves are those of one way
abbrev pub AreMoves : List Move → Type 0
AreMoves ms = moves_of (way_in ms) ≡ ms

-- a move of the code as plain data
abbrev pub move_of : WayMove → Move
move_of WM.Nothing = Nothing
move_of WM.Enter = Enter
move_of WM.Take = Take
move_of WM.Left = Left
move_of WM.Right = Right
move_of (WM.Both sides) = Both sides.items
move_of (WM.Then n) = Then n
