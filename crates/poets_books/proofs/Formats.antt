-- Texts whose pieces are known.
use Rattle.std.proofs.Common.{◌≡◌, ℕ, List, ◌++◌, refl}
use Rattle.std.specs.Prelude.{codes}

pub template_pieces :
    {n m p q b c : List ℕ} → n ≡ m → p ≡ q → b ≡ c →
    codes "template " ++ n ++ p ++ codes " = " ++ b ≡ codes "template " ++ m ++ q ++ codes " = " ++ c
template_pieces nm pq bc = rw (nm, pq, bc) refl

pub report_pieces :
    {n m p q t u f g : List ℕ} → n ≡ m → p ≡ q → t ≡ u → f ≡ g →
    codes "report " ++ n ++ p ++ codes ": " ++ t ++ codes " = " ++ f
    ≡ codes "report " ++ m ++ q ++ codes ": " ++ u ++ codes " = " ++ g
report_pieces nm pq tu fg = rw (nm, pq, tu, fg) refl

pub fold_pieces :
    {x y s t b c e f k l : List ℕ} → x ≡ y → s ≡ t → b ≡ c → e ≡ f → k ≡ l →
    codes "fold " ++ x ++ codes " = " ++ s ++ codes " with (" ++ b ++ codes ") in " ++ e ++ k
    ≡ codes "fold " ++ y ++ codes " = " ++ t ++ codes " with (" ++ c ++ codes ") in " ++ f ++ l
fold_pieces xy st bc ef kl = rw (xy, st, bc, ef, kl) refl
