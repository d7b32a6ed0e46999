-- A clerk's own calls in a history.
use Rattle.std.proofs.Common.{◌≡◌, ◌≢◌, ℕ, ◌<◌, ◌≤◌, ◌==◌, Bool, true, false, List, [], ◌∷◌, ◌++◌, refl, ap, ◌∙◌, arith, eq-eqb, ne_eqb, if◌then◌else◌}
use Rattle.std.proofs.lemmas.List.{append-nil}
use Rattle.std.specs.Prelude.{All}
use Rattle.std.proofs.lemmas.List.Elements.{All-head, All-tail}
use Rattle.poets_machine.specs.Histories.{calls_by}

module _ {A : Type 0} where
  maybe_more : (b : Bool) (x : A) (us vs ws : List A) → us ≡ vs ++ ws → (if b then x ∷ us else us) ≡ (if b then x ∷ vs else vs) ++ ws
  maybe_more true x us vs ws e = ap (λ l. x ∷ l) e
  maybe_more false x us vs ws e = e

module _ {C : Type 0} where
  pub calls_by-append : (k : ℕ) (xs ys : List (ℕ × C)) → calls_by k (xs ++ ys) ≡ calls_by k xs ++ calls_by k ys
  calls_by-append k [] ys = refl
  calls_by-append k (x ∷ xs) ys = maybe_more (x.0 == k) x.1 (calls_by k (xs ++ ys)) (calls_by k xs) (calls_by k ys) (calls_by-append k xs ys)

  pub own_added : (k : ℕ) (l : List (ℕ × C)) (c : C) → calls_by k (l ++ (k, c) ∷ []) ≡ calls_by k l ++ c ∷ []
  own_added k l c = calls_by-append k l ((k, c) ∷ []) ∙ ap (λ (b : Bool). calls_by k l ++ (if b then c ∷ [] else [])) (eq-eqb k k refl)

  pub own_kept : (k j : ℕ) (l : List (ℕ × C)) (c : C) → j ≢ k → calls_by k (l ++ (j, c) ∷ []) ≡ calls_by k l
  own_kept k j l c ne = calls_by-append k l ((j, c) ∷ []) ∙ (ap (λ (b : Bool). calls_by k l ++ (if b then c ∷ [] else [])) (ne_eqb j k ne) ∙ append-nil (calls_by k l))

  -- a number past all that the history has
  pub own_none : (k last : ℕ) (history : List (ℕ × C)) → last < k → All (λ e. (0 < e.0) × (e.0 ≤ last)) history → calls_by k history ≡ []
  own_none k last [] past all = refl
  own_none k last (e ∷ es) past all = let P : ℕ × C → Type 0 = λ e. (0 < e.0) × (e.0 ≤ last) in let h = (All-head P e es all).1 in
      ap (λ (b : Bool). if b then e.1 ∷ calls_by k es else calls_by k es) (ne_eqb e.0 k (λ is. omega arith)) ∙ own_none k last es past (All-tail P e es all)
