-- Tables and sets of names.
use Rattle.std.proofs.Common.{◌≡◌, ℕ, ◌+◌, ◌<◌, Bool, true, false, cond, List, [], ◌∷◌, ◌++◌, length, take, get_or, Option, Some, None, refl, ap, arith, add-zero}
use Rattle.std.specs.Prelude.{◌||◌, if◌then◌else◌, is_some}
use Rattle.std.specs.Option.{option_or}
use Rattle.std.specs.List.{position_from, list_any}
use Rattle.std.specs.Ordering.{is_eq}
use Rattle.std.proofs.lemmas.List.{take_more, length-take-le}
use Rattle.std.proofs.lemmas.Bool.Decides.{nat_tests}
use Rattle.poets_value.specs.declared.value.Name.{Name}
use Rattle.poets_value.specs.Names.{name_cmp}
use Rattle.poets_expr.specs.Env.{same_name}

-- the order says which names are the same
pub same_is_eq : (x y : Name) → same_name x y ≡ is_eq (name_cmp y x)
same_is_eq x y = grind (arith, nat_tests)

by_test : (b : Bool) (k m n : ℕ) (o : Option ℕ) (c : Bool) → m ≡ n →
    cond b (Some k) (option_or o (if c then Some m else None)) ≡ option_or (cond b (Some k) o) (if c then Some n else None)
by_test true k m n o c e = refl
by_test false k m n o c e = ap (λ (i : ℕ). option_or o (if c then Some i else None)) e

last_place : (b : Bool) (k : ℕ) → cond b (Some k) None ≡ (if b then Some k else None)
last_place true k = refl
last_place false k = refl

position_from-push : {A : Type 0} (p : A → Bool) (k : ℕ) (xs : List A) (y : A) →
    position_from p k (xs ++ y ∷ []) ≡ option_or (position_from p k xs) (if p y then Some (k + length xs) else None)
position_from-push p k [] y = rw (add-zero) (last_place (p y) k)
position_from-push p k (x ∷ xs) y =
    rw (position_from-push p (k + 1) xs y) (by_test (p x) k (k + 1 + length xs) (k + length (x ∷ xs)) (position_from p (k + 1) xs) (p y) (omega arith))

-- one more element
pub position_from_more : {A : Type 0} (p : A → Bool) (xs : List A) (i : ℕ) (d : A) → i < length xs →
    position_from p 0 (take (i + 1) xs) ≡ option_or (position_from p 0 (take i xs)) (if p (get_or xs i d) then Some i else None)
position_from_more p xs i d l =
    let n : length (take i xs) ≡ i = length-take-le i xs (omega arith) in
    rw (take_more xs i d l, position_from-push p 0 (take i xs) (get_or xs i d))
    (ap (λ (n : ℕ). option_or (position_from p 0 (take i xs)) (if p (get_or xs i d) then Some n else None)) (omega (arith, n)))

-- a place is there where an element passes
pub position_from-some : {A : Type 0} (p : A → Bool) (k : ℕ) (xs : List A) → is_some (position_from p k xs) ≡ list_any p xs
position_from-some p k [] = refl
position_from-some p k (x ∷ xs) = by_some (p x) (position_from p (k + 1) xs) (list_any p xs) (position_from-some p (k + 1) xs)
  where
    by_some : (b : Bool) (o : Option ℕ) (a : Bool) → is_some o ≡ a → is_some (cond b (Some k) o) ≡ (b || a)
    by_some true o a e = refl
    by_some false o a e = e
