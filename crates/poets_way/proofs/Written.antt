-- What is written for the moves of a way is its text.
use Rattle.std.proofs.Common.{◌≡◌, ℕ, Bool, true, false, List, [], ◌∷◌, ◌++◌, codes, sym, ◌∙◌, ap, append_assoc, append-nil}
use Rattle.std.specs.Fmt.{decimal}
use Rattle.poets_way.specs.Moves.{Move, moves_of}
use Rattle.poets_way.specs.Moves as M
use Rattle.poets_way.specs.Texts.{sides_text, way_text}
use Rattle.poets_way.specs.Way.{Way}
use Rattle.poets_way.specs.Way as W
use Rattle.poets_way.specs.code.Writing.{after_end, end_text, moves_text}

-- what stands ahead of a part, the part, and what follows
one : (a w e r x : List ℕ) → x ≡ w ++ (e ++ r) → a ++ x ≡ (a ++ w) ++ (e ++ r)
one a w e r x p = ap (λ z. a ++ z) p ∙ sym (append_assoc a w (e ++ r))

-- what stands ahead of two parts, the parts, what is between and behind them, and what follows
two : (s p v b u c e r x y : List ℕ) → x ≡ v ++ (b ++ y) → y ≡ u ++ ((c ++ e) ++ r) → (s ++ p) ++ x ≡ (s ++ p ++ v ++ b ++ u ++ c) ++ (e ++ r)
two s p v b u c e r x y f g =
    let all : (s ++ p) ++ (v ++ (b ++ (u ++ ((c ++ e) ++ r)))) ≡ (s ++ p ++ v ++ b ++ u ++ c) ++ (e ++ r) = simp append_assoc in
    ap (λ z. (s ++ p) ++ z) f ∙ ap (λ z. (s ++ p) ++ (v ++ (b ++ z))) g ∙ all

-- the text of the way, the ends of the parts that end with it, and then the rest
pub written : (w : Way) (ms : List Move) (parts : List Bool) →
    moves_text (moves_of w ++ ms) parts ≡ way_text w ++ (end_text parts ++ moves_text ms (after_end parts))
written W.Nothing ms parts = append_assoc (codes "done") (end_text parts) (moves_text ms (after_end parts))
written (W.Enter w) ms parts = one (codes "enter ") (way_text w) (end_text parts) (moves_text ms (after_end parts)) (moves_text (moves_of w ++ ms) parts) (written w ms parts)
written (W.Take w) ms parts = one (codes "take ") (way_text w) (end_text parts) (moves_text ms (after_end parts)) (moves_text (moves_of w ++ ms) parts) (written w ms parts)
written (W.Left w) ms parts = one (codes "left ") (way_text w) (end_text parts) (moves_text ms (after_end parts)) (moves_text (moves_of w ++ ms) parts) (written w ms parts)
written (W.Right w) ms parts = one (codes "right ") (way_text w) (end_text parts) (moves_text ms (after_end parts)) (moves_text (moves_of w ++ ms) parts) (written w ms parts)
written (W.Both sides v u) ms parts =
    ap (λ z. moves_text (M.Both sides ∷ z) parts) (append_assoc (moves_of v) (moves_of u) ms)
    ∙ ap (λ z. codes "both " ++ z)
    (two (sides_text sides) (codes " (") (way_text v) (codes ") (") (way_text u) (codes ")") (end_text parts) (moves_text ms (after_end parts))
    (moves_text (moves_of v ++ (moves_of u ++ ms)) (true ∷ parts)) (moves_text (moves_of u ++ ms) (false ∷ parts))
    (written v (moves_of u ++ ms) (true ∷ parts)) (written u ms (false ∷ parts)))
written (W.Then n v u) ms parts =
    ap (λ z. moves_text (M.Then n ∷ z) parts) (append_assoc (moves_of v) (moves_of u) ms)
    ∙ ap (λ z. codes "then " ++ z)
    (two (decimal n) (codes " (") (way_text v) (codes ") (") (way_text u) (codes ")") (end_text parts) (moves_text ms (after_end parts))
    (moves_text (moves_of v ++ (moves_of u ++ ms)) (true ∷ parts)) (moves_text (moves_of u ++ ms) (false ∷ parts))
    (written v (moves_of u ++ ms) (true ∷ parts)) (written u ms (false ∷ parts)))

pub written_whole : (w : Way) → moves_text (moves_of w) [] ≡ way_text w
written_whole w = ap (λ ms. moves_text ms []) (sym (append-nil (moves_of w))) ∙ written w [] [] ∙ append-nil (way_text w)
