-- Beginnings of one list.
use Rattle.std.proofs.Common.{◌≡◌, ℕ, ◌≤◌, Bool, true, false, List, [], ◌∷◌, ◌++◌, length, refl, ap, sym, ◌∙◌, arith, append_assoc, length-append, if◌then◌else◌}
use Rattle.std.proofs.lemmas.List.{append-nil}
use Rattle.std.specs.Prelude.{ltb}
use mathlib.Core.List.{IsPrefix}
use Rattle.poets_machine.specs.Histories.{calls_by}
use Rattle.poets_machine.proofs.Histories.{calls_by-append}
use Rattle.poets_turn.specs.code.Turnstile.{longer}

module _ {A : Type 0} where
  pub prefix_nil : (xs : List A) → IsPrefix [] xs
  prefix_nil xs = (xs, refl)

  pub prefix_self : (xs : List A) → IsPrefix xs xs
  prefix_self xs = ([], append-nil xs)

  pub prefix_trans : (xs ys zs : List A) → IsPrefix xs ys → IsPrefix ys zs → IsPrefix xs zs
  prefix_trans xs ys zs p q = (p.0 ++ q.0, sym (append_assoc xs p.0 q.0) ∙ (ap (λ w. w ++ q.0) p.1 ∙ q.1))

  -- of two beginnings of one list the shorter begins the longer
  pub prefix_shorter : (xs ys zs : List A) → IsPrefix xs zs → IsPrefix ys zs → length xs ≤ length ys → IsPrefix xs ys
  prefix_shorter [] ys zs p q le = (ys, refl)
  prefix_shorter (x ∷ xs) [] zs p q le = absurd (omega arith)
  prefix_shorter (x ∷ xs) (y ∷ ys) [] p q le = absurd (cc (p.1))
  prefix_shorter (x ∷ xs) (y ∷ ys) (z ∷ zs) p q le =
      let heads : x ≡ y = cc (p.1, q.1) in
      let rest = prefix_shorter xs ys zs (p.0, cc (p.1)) (q.0, cc (q.1)) (omega arith) in
      (rest.0, cc (heads, rest.1))

  pub prefix_length : (xs ys : List A) → IsPrefix xs ys → length xs ≤ length ys
  prefix_length xs ys p = omega (arith, sym (ap length p.1) ∙ length-append xs p.0)

module _ {A : Type 0} where
  nothing_more : (xs ys : List A) → xs ++ ys ≡ xs → ys ≡ []
  nothing_more [] ys e = e
  nothing_more (x ∷ xs) ys e = nothing_more xs ys (cc (e))

  nothing_left : (xs ys : List A) → xs ++ ys ≡ [] → xs ≡ []
  nothing_left [] ys e = refl
  nothing_left (x ∷ xs) ys e = absurd (cc (e))

  pub prefix_whole : (xs ys : List A) → IsPrefix xs ys → length ys ≤ length xs → xs ≡ ys
  prefix_whole [] [] p le = refl
  prefix_whole [] (y ∷ ys) p le = absurd (omega arith)
  prefix_whole (x ∷ xs) [] p le = absurd (cc (p.1))
  prefix_whole (x ∷ xs) (y ∷ ys) p le = let rest = prefix_whole xs ys (p.0, cc (p.1)) (omega arith) in cc (p.1, rest)

module _ {C : Type 0} where
  -- between two beginnings with the same calls of k the calls are the same
  pub own_between : (k : ℕ) (xs ys zs : List (ℕ × C)) → IsPrefix xs ys → IsPrefix ys zs → calls_by k xs ≡ calls_by k zs → calls_by k ys ≡ calls_by k xs
  own_between k xs ys zs p q e =
      let one : calls_by k ys ≡ calls_by k xs ++ calls_by k p.0 = sym (ap (calls_by k) p.1) ∙ calls_by-append k xs p.0 in
      let two : calls_by k zs ≡ calls_by k ys ++ calls_by k q.0 = sym (ap (calls_by k) q.1) ∙ calls_by-append k ys q.0 in
      let all : calls_by k xs ++ (calls_by k p.0 ++ calls_by k q.0) ≡ calls_by k xs = sym (append_assoc (calls_by k xs) (calls_by k p.0) (calls_by k q.0)) ∙ (ap (λ z. z ++ calls_by k q.0) (sym one) ∙ (sym two ∙ sym e)) in
      let none : calls_by k p.0 ≡ [] = nothing_left (calls_by k p.0) (calls_by k q.0) (nothing_more (calls_by k xs) (calls_by k p.0 ++ calls_by k q.0) all) in
      one ∙ (ap (λ z. calls_by k xs ++ z) none ∙ append-nil (calls_by k xs))

  pub longer_one : (xs ys zs : List (ℕ × C)) → IsPrefix xs zs → IsPrefix ys zs → IsPrefix xs (longer xs ys) × IsPrefix ys (longer xs ys) × IsPrefix (longer xs ys) zs
  longer_one xs ys zs p q = go (ltb (length xs) (length ys)) refl
    where
      go : (b : Bool) → ltb (length xs) (length ys) ≡ b → IsPrefix xs (if b then ys else xs) × IsPrefix ys (if b then ys else xs) × IsPrefix (if b then ys else xs) zs
      go true e = (prefix_shorter xs ys zs p q (grind arith), prefix_self ys, q)
      go false e = (prefix_self xs, prefix_shorter ys xs zs q p (grind arith), p)

  pub longer_nil : (xs : List (ℕ × C)) → longer xs [] ≡ xs
  longer_nil xs = go (ltb (length xs) 0) refl
    where
      go : (b : Bool) → ltb (length xs) 0 ≡ b → (if b then [] else xs) ≡ xs
      go true e = absurd (grind arith)
      go false e = refl

  pub longer_first : (xs ys : List (ℕ × C)) → length ys ≤ length xs → longer xs ys ≡ xs
  longer_first xs ys le = go (ltb (length xs) (length ys)) refl
    where
      go : (b : Bool) → ltb (length xs) (length ys) ≡ b → (if b then ys else xs) ≡ xs
      go true e = absurd (grind arith)
      go false e = refl

  pub longer_left : (xs ys zs : List (ℕ × C)) → IsPrefix ys zs → xs ≡ zs → longer xs ys ≡ zs
  longer_left xs ys zs q e = longer_first xs ys (let h = prefix_length ys zs q in let g = ap length e in omega arith) ∙ e

  pub longer_right : (xs ys zs : List (ℕ × C)) → IsPrefix xs zs → ys ≡ zs → longer xs ys ≡ zs
  longer_right xs ys zs p e = go (ltb (length xs) (length ys)) refl
    where
      go : (b : Bool) → ltb (length xs) (length ys) ≡ b → (if b then ys else xs) ≡ zs
      go true is = e
      go false is = prefix_whole xs zs p (let g = ap length e in let h : length ys ≤ length xs = grind arith in omega arith)
