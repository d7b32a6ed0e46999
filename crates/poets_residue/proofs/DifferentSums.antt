-- Sums over the different items of a list.
use Rattle.std.proofs.Common.{◌≡◌, ℕ, Bool, true, false, cond, ◌||◌, arith, List, [], ◌∷◌, refl, sym, ◌∙◌, ap, sum_by}
use Rattle.std.specs.Cmp.{IsEquivalence}
use Rattle.std.specs.List.{IsDistinct, AllByRecursion}
use Rattle.std.specs.Set.{is_member, unique_keys}
use Rattle.std.proofs.lemmas.Bool.{false≢true}
use Rattle.std.proofs.lemmas.Map.Steps.{list_any_congr}
use Rattle.poets_value.proofs.DistinctSums.{sum_by-le_members, sum_by-le_unique_keys}

module _ {K : Type 0} {eq : K → K → Bool} (laws : IsEquivalence eq) where
  apart_from_absent : (x : K) (xs : List K) → is_member eq xs x ≡ false → AllByRecursion (λ y. eq x y ≡ false) xs
  apart_from_absent x [] a = tt
  apart_from_absent x (y ∷ xs) a = by (eq x y) refl a (apart_from_absent x xs)
    where
      by : (b : Bool) → eq x y ≡ b → (b || is_member eq xs x) ≡ false → (is_member eq xs x ≡ false → AllByRecursion (λ z. eq x z ≡ false) xs) →
          (eq x y ≡ false) × AllByRecursion (λ z. eq x z ≡ false) xs
      by true e h rest = absurd (false≢true (sym h))
      by false e h rest = (e, rest h)

  member-unique : (ys : List K) (q : K) → is_member eq (unique_keys eq ys) q ≡ is_member eq ys q
  member-unique [] q = refl
  member-unique (y ∷ ys) q = by (is_member eq ys y) refl (member-unique ys q)
    where
      known : (b : Bool) → eq q y ≡ b → is_member eq ys y ≡ true → is_member eq ys q ≡ (b || is_member eq ys q)
      known true e m = list_any_congr laws q y ys e ∙ m
      known false e m = refl

      by : (b : Bool) → is_member eq ys y ≡ b → is_member eq (unique_keys eq ys) q ≡ is_member eq ys q →
          is_member eq (cond b (unique_keys eq ys) (y ∷ unique_keys eq ys)) q ≡ (eq q y || is_member eq ys q)
      by true m r = r ∙ known (eq q y) refl m
      by false m r = ap (λ v. eq q y || v) r

  distinct-unique : (xs : List K) → IsDistinct eq (unique_keys eq xs)
  unfolding IsDistinct
  distinct-unique [] = tt
  distinct-unique (x ∷ xs) = by (is_member eq xs x) refl (distinct-unique xs)
    where
      by : (b : Bool) → is_member eq xs x ≡ b → IsDistinct eq (unique_keys eq xs) → IsDistinct eq (cond b (unique_keys eq xs) (x ∷ unique_keys eq xs))
      by true m r = r
      by false m r = (apart_from_absent x (unique_keys eq xs) (member-unique xs x ∙ m), r)

  -- a list of different items is summed as the different items of a list that has the same
  pub sum_by-different : (f : K → ℕ) → ((x y : K) → eq x y ≡ true → f x ≡ f y) → (xs ys : List K) → IsDistinct eq xs →
      ((q : K) → is_member eq xs q ≡ is_member eq ys q) → sum_by f xs ≡ sum_by f (unique_keys eq ys)
  sum_by-different f same xs ys d h =
      let up = sum_by-le_unique_keys laws f same xs ys d (λ q m. sym (h q) ∙ m) in
      let down = sum_by-le_members laws f same (unique_keys eq ys) xs (distinct-unique ys) (λ q m. h q ∙ sym (member-unique ys q) ∙ m) in
      omega (arith, up, down)
