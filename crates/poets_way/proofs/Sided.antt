-- Lists of sides, and the items of each side.
use Rattle.std.proofs.Common.{◌≡◌, ℕ, zero, suc, ◌+◌, ◌-◌, ◌≤◌, Bool, true, false, List, [], ◌∷◌, length, take, drop, refl, ap, arith}
use Rattle.poets_way.specs.Ways.{first_of, second_of}
use Rattle.poets_way.specs.code.Sides.{repeated}
use Rattle.poets_way.specs.Trails.{seconds}

pub length-repeated : (n : ℕ) (b : Bool) → length (repeated n b) ≡ n
length-repeated zero b = refl
length-repeated (suc n) b = ap suc (length-repeated n b)

-- where all are the first one's, it has all, and the second one none
pub all_first : {A : Type 0} (n : ℕ) (s : List A) → length s ≡ n → first_of (repeated n false) s ≡ s
all_first zero [] e = refl
all_first zero (x ∷ s) e = absurd cc
all_first (suc n) [] e = absurd cc
all_first (suc n) (x ∷ s) e = ap (λ u. x ∷ u) (all_first n s (omega (arith, e)))

pub no_second : {A : Type 0} (n : ℕ) (s : List A) → length s ≡ n → second_of (repeated n false) s ≡ []
no_second zero [] e = refl
no_second zero (x ∷ s) e = absurd cc
no_second (suc n) [] e = absurd cc
no_second (suc n) (x ∷ s) e = no_second n s (omega (arith, e))

-- and the other way round
pub all_second : {A : Type 0} (n : ℕ) (s : List A) → length s ≡ n → second_of (repeated n true) s ≡ s
all_second zero [] e = refl
all_second zero (x ∷ s) e = absurd cc
all_second (suc n) [] e = absurd cc
all_second (suc n) (x ∷ s) e = ap (λ u. x ∷ u) (all_second n s (omega (arith, e)))

pub no_first : {A : Type 0} (n : ℕ) (s : List A) → length s ≡ n → first_of (repeated n true) s ≡ []
no_first zero [] e = refl
no_first zero (x ∷ s) e = absurd cc
no_first (suc n) [] e = absurd cc
no_first (suc n) (x ∷ s) e = no_first n s (omega (arith, e))

-- how many items each side has
pub length-second : {A : Type 0} (sides : List Bool) (s : List A) → length sides ≡ length s → length (second_of sides s) ≡ seconds sides
length-second [] [] e = refl
length-second [] (x ∷ s) e = absurd cc
length-second (b ∷ sides) [] e = absurd cc
length-second (true ∷ sides) (x ∷ s) e = ap suc (length-second sides s (omega (arith, e)))
length-second (false ∷ sides) (x ∷ s) e = length-second sides s (omega (arith, e))

pub seconds_and_first : {A : Type 0} (sides : List Bool) (s : List A) → length sides ≡ length s → length (first_of sides s) + seconds sides ≡ length s
seconds_and_first [] [] e = refl
seconds_and_first [] (x ∷ s) e = absurd cc
seconds_and_first (b ∷ sides) [] e = absurd cc
seconds_and_first (true ∷ sides) (x ∷ s) e = let h = seconds_and_first sides s (omega (arith, e)) in omega (arith, h)
seconds_and_first (false ∷ sides) (x ∷ s) e = let h = seconds_and_first sides s (omega (arith, e)) in omega (arith, h)

-- so many items, and those after them
pub take_all : {A : Type 0} (n : ℕ) (s : List A) → length s ≡ n → take n s ≡ s
take_all zero [] e = refl
take_all zero (x ∷ s) e = absurd cc
take_all (suc n) [] e = absurd cc
take_all (suc n) (x ∷ s) e = ap (λ u. x ∷ u) (take_all n s (omega (arith, e)))

pub drop_all : {A : Type 0} (n : ℕ) (s : List A) → length s ≡ n → drop n s ≡ []
drop_all zero [] e = refl
drop_all zero (x ∷ s) e = absurd cc
drop_all (suc n) [] e = absurd cc
drop_all (suc n) (x ∷ s) e = drop_all n s (omega (arith, e))

pub length-taken : {A : Type 0} (n : ℕ) (s : List A) → n ≤ length s → length (take n s) ≡ n
length-taken zero s h = refl
length-taken (suc n) [] h = absurd (omega (arith, h))
length-taken (suc n) (x ∷ s) h = ap suc (length-taken n s (omega (arith, h)))

pub length-left : {A : Type 0} (n : ℕ) (s : List A) → length (drop n s) ≡ length s - n
length-left zero s = omega arith
length-left (suc n) [] = omega arith
length-left (suc n) (x ∷ s) = let h = length-left n s in omega (arith, h)
