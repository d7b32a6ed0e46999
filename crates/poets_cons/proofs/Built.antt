-- Lists that grow, each item made from those before it.
use Rattle.std.proofs.Common.{◌≡◌, ℕ, zero, suc, ◌+◌, ◌<◌, true, arith, List, [], ◌∷◌, ◌++◌, length, slice_get, Some, refl, sym, ◌∙◌, ap, subst, inl, inr, ◌⊎◌, Bool, length-append, append_assoc}
use Rattle.std.specs.List.{IsDistinct, list_any}
use Rattle.std.proofs.lemmas.Bool.{cases_order, false≢true}
use Rattle.std.proofs.lemmas.Map.Keys.{apart_from_distinct}
use Rattle.std.proofs.lemmas.Option.{get_or_from_slice_get, slice_get_within}
use Rattle.std.proofs.Math.ListN.{get_or-append}
use Rattle.std.proofs.Math.Seq.{get_or-append_seam}
use Rattle.indexmap.specs.IndexSet.{insert_key}
use Rattle.poets_syntax.proofs.Replacing.{truth}
use Rattle.poets_cons.specs.code.Built.{item_at, built, IsLonger}

module _ {A B : Type 0} (none : B) (make : (ℕ → B) → A → B) where
  pub length-built : (items : List B) (rows : List A) → length (built none make items rows) ≡ length items + length rows
  length-built items [] = omega arith
  length-built items (r ∷ rows) =
      let next = length-built (items ++ make (item_at none items) r ∷ []) rows in
      omega (arith, next, length-append items (make (item_at none items) r ∷ []))

  -- what stands stays
  built-old : (items : List B) (rows : List A) (i : ℕ) → i < length items → item_at none (built none make items rows) i ≡ item_at none items i
  built-old items [] i h = refl
  built-old items (r ∷ rows) i h =
      built-old (items ++ make (item_at none items) r ∷ []) rows i (omega (arith, h, length-append items (make (item_at none items) r ∷ [])))
      ∙ get_or-append items (make (item_at none items) r ∷ []) none i h

  built-append : (items : List B) (rs ss : List A) → built none make items (rs ++ ss) ≡ built none make (built none make items rs) ss
  built-append items [] ss = refl
  built-append items (r ∷ rs) ss = built-append (items ++ make (item_at none items) r ∷ []) rs ss

  pub built-later : (items : List B) (old more : List A) (i : ℕ) → i < length items + length old →
      item_at none (built none make items (old ++ more)) i ≡ item_at none (built none make items old) i
  built-later items old more i h =
      ap (λ l. item_at none l i) (built-append items old more) ∙ built-old (built none make items old) more i (omega (arith, length-built items old, h))

  -- an item is made by those before it, on which alone it depends
  pub built-at : (items : List B) (rows : List A) (i : ℕ) (r : A) → slice_get rows i ≡ Some r →
      ((f g : ℕ → B) → ((k : ℕ) → k < length items + i → f k ≡ g k) → make f r ≡ make g r) →
      item_at none (built none make items rows) (length items + i) ≡ make (item_at none (built none make items rows)) r
  built-at items [] i r e h = absurd cc
  built-at items (s ∷ rows) zero r e h =
      let same : s ≡ r = cc in
      let here : length items + 0 ≡ length items = omega arith in
      let all = built none make items (s ∷ rows) in
      let made : item_at none all (length items) ≡ make (item_at none items) s =
      built-old (items ++ make (item_at none items) s ∷ []) rows (length items) (omega (arith, length-append items (make (item_at none items) s ∷ [])))
      ∙ get_or-append_seam items (make (item_at none items) s) [] none in
      ap (item_at none all) here ∙ made ∙ ap (make (item_at none items)) same
      ∙ h (item_at none items) (item_at none all) (λ k l. sym (built-old items (s ∷ rows) k (omega arith)))
  built-at items (s ∷ rows) (suc i) r e h =
      let longer = length-append items (make (item_at none items) s ∷ []) in
      let place : length (items ++ make (item_at none items) s ∷ []) + i ≡ length items + suc i = omega (arith, longer) in
      subst (λ n. item_at none (built none make items (s ∷ rows)) n ≡ make (item_at none (built none make items (s ∷ rows))) r) place
      (built-at (items ++ make (item_at none items) s ∷ []) rows i r e (λ f g a. h f g (λ k l. a k (omega (arith, l, place)))))

-- ---- rows that come at the end

pub longer_twice : {A : Type 0} (old mid new : List A) → IsLonger old mid → IsLonger mid new → IsLonger old new
longer_twice old mid new x y = (x.0 ++ y.0, y.1 ∙ ap (λ l. l ++ y.0) x.1 ∙ append_assoc old x.0 y.0)

-- an item of a list with one more at the end
pub at_push : {A : Type 0} (old : List A) (x : A) (i : ℕ) (y : A) → slice_get (old ++ x ∷ []) i ≡ Some y →
    (slice_get old i ≡ Some y) ⊎ ((i ≡ length old) × (y ≡ x))
at_push [] x zero y e = let same : x ≡ y = cc in inr (refl, sym same)
at_push [] x (suc i) y e = absurd cc
at_push (z ∷ old) x zero y e = inl e
at_push (z ∷ old) x (suc i) y e = elim (at_push old x i y e) [ inl h ↦ inl h | inr h ↦ inr (omega (arith, h.0), h.1) ]

-- what holds of the keys, and with one more at the end, holds after an insertion
pub inserted : {A : Type 0} (same : A → A → Bool) (old : List A) (x : A) (P : List A → Type 0) → P old → P (old ++ x ∷ []) → P (insert_key same old x)
inserted same old x P h g = elim (truth (list_any (same x) old)) [ inl t ↦ rw t h | inr t ↦ rw t g ]

-- equal items of a list without such are one
pub same_place : {A : Type 0} (same : A → A → Bool) (items : List A) → IsDistinct same items → (i j : ℕ) (x y : A) → slice_get items i ≡ Some x →
    slice_get items j ≡ Some y → same x y ≡ true → same y x ≡ true → i ≡ j
same_place {A = A} same items apart i j x y e f t u = elim (cases_order i j) [
  | inl k ↦ k
  | inr k ↦ elim k [ inl l ↦ absurd (never i j x y e f t l) | inr l ↦ absurd (never j i y x f e u l) ]
]
  where
    never : (i j : ℕ) (x y : A) → slice_get items i ≡ Some x → slice_get items j ≡ Some y → same x y ≡ true → i < j → ⊥
    never i j x y e f t l =
        let a = get_or_from_slice_get items i x x e in
        let b = get_or_from_slice_get items j y x f in
        let n = apart_from_distinct same items i j x apart l (slice_get_within items j y f) in
        false≢true (sym (rw (a, b) at n) ∙ t)
