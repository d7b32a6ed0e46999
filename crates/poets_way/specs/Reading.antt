-- A way can be read from its moves.
use Rattle.std.proofs.Common.{◌≡◌, ◌∙◌, ap, sym, refl, List, [], ◌∷◌, ◌++◌}
use Rattle.poets_way.specs.Way.{Way}
use Rattle.poets_way.specs.Way as W
use Rattle.poets_way.specs.Moves.{Move, moves_of, put_before, ways_in, way_in, first_in}
use Rattle.poets_way.specs.Moves as M

appended : (xs ys zs : List Move) → (xs ++ ys) ++ zs ≡ xs ++ (ys ++ zs)
appended [] ys zs = refl
appended (x ∷ xs) ys zs = ap (λ s. x ∷ s) (appended xs ys zs)

-- before further moves stand those of the way
pub ways_before : (w : Way) (ms : List Move) → ways_in (moves_of w ++ ms) ≡ w ∷ ways_in ms
ways_before W.Nothing ms = refl
ways_before (W.Enter w) ms = ap (put_before M.Enter) (ways_before w ms)
ways_before (W.Take w) ms = ap (put_before M.Take) (ways_before w ms)
ways_before (W.Left w) ms = ap (put_before M.Left) (ways_before w ms)
ways_before (W.Right w) ms = ap (put_before M.Right) (ways_before w ms)
ways_before (W.Both sides v u) ms =
    ap (λ s. put_before (M.Both sides) (ways_in s)) (appended (moves_of v) (moves_of u) ms)
    ∙ ap (put_before (M.Both sides)) (ways_before v (moves_of u ++ ms) ∙ ap (λ ws. v ∷ ws) (ways_before u ms))
ways_before (W.Then n v u) ms =
    ap (λ s. put_before (M.Then n) (ways_in s)) (appended (moves_of v) (moves_of u) ms)
    ∙ ap (put_before (M.Then n)) (ways_before v (moves_of u ++ ms) ∙ ap (λ ws. v ∷ ws) (ways_before u ms))

nothing_after : (ms : List Move) → ms ++ [] ≡ ms
nothing_after [] = refl
nothing_after (m ∷ ms) = ap (λ s. m ∷ s) (nothing_after ms)

-- the way that the moves of a way are those of
pub way_of_moves : (w : Way) → way_in (moves_of w) ≡ w
way_of_moves w = ap way_in (sym (nothing_after (moves_of w))) ∙ ap first_in (ways_before w [])
