-- The sum after one amount more.
use Rattle.std.proofs.Common.{◌≡◌, ℕ, ◌+◌, ◌%◌, ◌^◌, List, [], ◌∷◌, ◌++◌, map, ap, ◌∙◌, arith}
use mathlib.Core.List.{map-append}
use Rattle.poets_test_adder.specs.Adding.{total}

total_added : (xs : List (ℕ × ℕ)) (k c : ℕ) → total (xs ++ (k, c) ∷ []) ≡ total xs + c
total_added [] k c = omega arith
total_added (x ∷ xs) k c = let h = total_added xs k c in omega arith

pub adds : {E : Type 0} (f : E → ℕ × ℕ) (es all : List E) (e : E) (s : ℕ) → s ≡ total (map f es) % 2 ^ 64 → all ≡ es ++ e ∷ [] → (s + (f e).1) % 2 ^ 64 ≡ total (map f all) % 2 ^ 64
adds f es all e s is more = let g : total (map f all) ≡ total (map f es) + (f e).1 = ap (λ l. total (map f l)) more ∙ (ap total (map-append f es (e ∷ [])) ∙ total_added (map f es) (f e).0 (f e).1) in
    let t : ℕ = total (map f es) in let x : ℕ = (f e).1 in let is' : s ≡ t % 18446744073709551616 = is in omega arith
