-- Clerks that are numbered are all.
use Rattle.std.proofs.Common.{◌≡◌, ℕ, zero, suc, ◌+◌, ◌<◌, ◌≤◌, List, [], ◌∷◌, ◌++◌, length, map, ap, sym, ◌∙◌, subst, arith}
use Rattle.std.specs.Prelude.{Contains, slice_index_or}
use Rattle.std.proofs.lemmas.List.{length-map, get_or-map, get_or_default}
use Rattle.poets_turn.specs.declared.types.ClerkOf.{ClerkOf}
use Rattle.poets_turn.specs.Clerks.{number, AreNumbered, AreAll}

all_from : {A : Type 0} (f : A → ℕ) (xs : List A) (n : ℕ) → length xs ≡ n → ((k : ℕ) (d : A) → k < length xs → f (slice_index_or xs k d) ≡ k + 1) → (k : ℕ) → 0 < k → k ≤ n → Contains (map f xs) k
all_from f xs n long numbered zero low high = absurd (omega arith)
all_from f [] n long numbered (suc k) low high = absurd (omega arith)
all_from f (x ∷ xs) n long numbered (suc k) low high =
    let inside : k < length (x ∷ xs) = omega arith in let l = length-map (x ∷ xs) f in let within : k < length (map f (x ∷ xs)) = omega arith in
    (k, within, get_or_default (map f (x ∷ xs)) k (suc k) (f x) within ∙ (get_or-map f (x ∷ xs) k x (f x) inside ∙ (numbered k x inside ∙ omega arith)))

pub numbered_are_all : {M C F : Type 0} (count : ℕ) (clerks : List (ClerkOf M C F)) → length clerks ≡ count → AreNumbered clerks → AreAll count clerks
numbered_are_all count clerks = all_from (λ c. number c) clerks count

-- one that is numbered 1 and then one that is numbered 2, in a list that was empty
pub two_numbered : {A : Type 0} (f : A → ℕ) (xs ys zs : List A) {a b : A} → xs ≡ [] → ys ≡ xs ++ a ∷ [] → zs ≡ ys ++ b ∷ [] → f a ≡ 1 → f b ≡ 2 → (n : ℕ) → n ≡ 2
    → (length zs ≡ n) × ((k : ℕ) (d : A) → k < length zs → f (slice_index_or zs k d) ≡ k + 1)
two_numbered {A} f xs ys zs {a} {b} none first second one other n two =
    let all : zs ≡ a ∷ b ∷ [] = second ∙ (ap (λ l. l ++ b ∷ []) first ∙ ap (λ l. (l ++ a ∷ []) ++ b ∷ []) none) in
    subst (λ l. (length l ≡ n) × ((k : ℕ) (d : A) → k < length l → f (slice_index_or l k d) ≡ k + 1)) (sym all) (sym two, at)
  where
    at : (k : ℕ) (d : A) → k < 2 → f (slice_index_or (a ∷ b ∷ []) k d) ≡ k + 1
    at zero d l = one
    at (suc zero) d l = other
    at (suc (suc k)) d l = absurd (omega arith)
