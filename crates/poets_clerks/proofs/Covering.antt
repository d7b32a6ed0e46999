-- Answers of one clerk stand at rising places. Where there are as many as the history has calls of it, they stand at each place that is the clerk's.
use Rattle.std.proofs.Common.{◌≡◌, ℕ, zero, suc, ◌+◌, ◌-◌, ◌≤◌, ◌==◌, Bool, true, false, List, [], ◌∷◌, ◌++◌, length, take, drop, refl, ap, sym, ◌∙◌, subst, arith, append_assoc, length-append, eq-eqb, if◌then◌else◌, Some}
use Rattle.std.specs.Prelude.{Contains, slice_get}
use Rattle.std.proofs.lemmas.List.Prefix.{front_rest}
use Rattle.std.proofs.lemmas.List.Elements.{Contains-append_right}
use mathlib.Core.Logic.{dite}
use native.Mathlib.Decide.{ℕ_discrete}
use lib.Seq.{drop-drop}
use Rattle.poets_machine.specs.Histories.{calls_by}
use Rattle.poets_clerks.specs.Scripts.{IsAnswerAt, AreAnswers}

module _ {A : Type 0} where
  take_front : (xs ys : List A) → take (length xs) (xs ++ ys) ≡ xs
  take_front [] ys = refl
  take_front (x ∷ xs) ys = ap (λ l. x ∷ l) (take_front xs ys)

  pub dropped : (xs : List A) (p : ℕ) (x : A) → slice_get xs p ≡ Some x → drop p xs ≡ x ∷ drop (p + 1) xs
  dropped [] p x e = absurd (cc (e))
  dropped (y ∷ ys) zero x e = cc (e)
  dropped (y ∷ ys) (suc p) x e = let next : suc (p + 1) ≡ suc p + 1 = omega arith in dropped ys p x e ∙ ap (λ n. x ∷ drop n (y ∷ ys)) next

  cons_first : {x y : A} {xs ys : List A} → x ∷ xs ≡ y ∷ ys → x ≡ y
  cons_first e = cc (e)

module _ {C : Type 0} where
  -- how many calls of the clerk stand from a place on
  abbrev pub from : ℕ → List (ℕ × C) → ℕ → ℕ
  from k h p = length (calls_by k (drop p h))

  one_more : (b : Bool) (x : C) (xs : List C) → length xs ≤ length (if b then x ∷ xs else xs)
  one_more true x xs = omega arith
  one_more false x xs = omega arith

  fewer : (k m : ℕ) (h : List (ℕ × C)) → length (calls_by k (drop m h)) ≤ length (calls_by k h)
  fewer k zero h = omega arith
  fewer k (suc m) [] = omega arith
  fewer k (suc m) (x ∷ xs) = let r = fewer k m xs in let o = one_more (x.0 == k) x.1 (calls_by k xs) in omega arith

  from_later : (k p q : ℕ) (h : List (ℕ × C)) → p ≤ q → from k h q ≤ from k h p
  from_later k p q h le = let r = fewer k (q - p) (drop p h) in let e : drop (q - p) (drop p h) ≡ drop q h = drop-drop (q - p) p h ∙ ap (λ n. drop n h) (omega arith) in
      subst (λ l. length (calls_by k l) ≤ from k h p) e r

  -- the place is the clerk's
  abbrev pub IsOf : ℕ → List (ℕ × C) → ℕ → Type 0
  IsOf k h p = (c : C) × (drop p h ≡ (k, c) ∷ drop (p + 1) h)

  from_here : (k p : ℕ) (h : List (ℕ × C)) → IsOf k h p → from k h p ≡ from k h (p + 1) + 1
  from_here k p h is = ap (λ l. length (calls_by k l)) is.1 ∙ (ap (λ (b : Bool). length (if b then is.0 ∷ calls_by k (drop (p + 1) h) else calls_by k (drop (p + 1) h))) (eq-eqb k k refl) ∙ omega arith)

module _ {C R : Type 0} (answers : List (ℕ × C) → ℕ → C → R → Type 0) (k : ℕ) (h : List (ℕ × C)) where
  answer_of : (c : C) (p : ℕ) (r : R) → IsAnswerAt answers h k c p r → IsOf k h p
  answer_of c p r a = let rest = a.here.0 in let b = a.before in
      let whole : h ≡ b ++ ((k, c) ∷ rest) = sym a.here.1 ∙ append_assoc b ((k, c) ∷ []) rest in
      let at : drop p h ≡ (k, c) ∷ rest = ap (λ n. drop n h) a.at ∙ front_rest h b ((k, c) ∷ rest) whole in
      let long : length (b ++ (k, c) ∷ []) ≡ p + 1 = length-append b ((k, c) ∷ []) ∙ ap (λ n. n + 1) (sym a.at) in
      let past : drop (p + 1) h ≡ rest = ap (λ n. drop n h) (sym long) ∙ front_rest h (b ++ (k, c) ∷ []) rest (sym a.here.1) in
      (c, at ∙ ap (λ l. (k, c) ∷ l) (sym past))

  -- there are no more answers than calls of the clerk
  few : (low : ℕ) (cs : List C) (ds : List (ℕ × R)) → AreAnswers answers h k low cs ds → length ds ≤ from k h low
  few low cs [] a = omega arith
  few low [] (d ∷ ds) a = absurd a
  few low (c ∷ cs) (d ∷ ds) a = let r = few (d.0 + 1) cs ds a.2 in let e = from_here k d.0 h (answer_of c d.0 d.1 a.0) in let l = from_later k low d.0 h a.1 in omega arith

  pub covers : (low : ℕ) (cs : List C) (ds : List (ℕ × R)) → AreAnswers answers h k low cs ds → length ds ≡ from k h low → (p : ℕ) → low ≤ p → IsOf k h p → (r : R) × (c : C) × Contains ds (p, r) × IsAnswerAt answers h k c p r
  covers low cs [] a all p le is = let e = from_here k p h is in let l = from_later k low p h le in absurd (omega arith)
  covers low [] (d ∷ ds) a all p le is = absurd a
  covers low (c ∷ cs) (d ∷ ds) a all p le is =
      let f = few (d.0 + 1) cs ds a.2 in let e = from_here k d.0 h (answer_of c d.0 d.1 a.0) in let l = from_later k low d.0 h a.1 in
      dite (ℕ_discrete p d.0)
      (λ same. (d.1, c, (0, omega arith, λ i. (sym same i, d.1)), subst (λ n. IsAnswerAt answers h k c n d.1) (sym same) a.0))
      (λ ne. dite (ℕ_discrete (d.0 - p) 0)
      (λ z. let past : d.0 + 1 ≤ p = omega arith in let t = covers (d.0 + 1) cs ds a.2 (omega arith) p past is in (t.0, t.1, Contains-append_right (d ∷ []) ds (p, t.0) t.2, t.3))
      (λ z. let e' = from_here k p h is in let l' = from_later k low p h le in let l'' = from_later k (p + 1) d.0 h (omega arith) in absurd (omega arith)))

  -- the reply is right after the entries before the place
  pub right_there : (c call : C) (p : ℕ) (r : R) → IsAnswerAt answers h k c p r → slice_get h p ≡ Some (k, call) → answers (take p h) k call r
  right_there c call p r a at = let rest = a.here.0 in let b = a.before in
      let whole : h ≡ b ++ ((k, c) ∷ rest) = sym a.here.1 ∙ append_assoc b ((k, c) ∷ []) rest in
      let front : take p h ≡ b = ap (λ n. take n h) a.at ∙ (ap (take (length b)) whole ∙ take_front b ((k, c) ∷ rest)) in
      let here : (k, c) ∷ rest ≡ (k, call) ∷ drop (p + 1) h = sym (ap (λ n. drop n h) a.at ∙ front_rest h b ((k, c) ∷ rest) whole) ∙ dropped h p (k, call) at in
      let same : c ≡ call = ap (λ x. x.1) (cons_first here) in
      subst (λ (x : List (ℕ × C) × C). answers x.0 k x.1 r) (λ i. (sym front i, same i)) a.right
