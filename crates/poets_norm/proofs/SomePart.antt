-- What a choice has where one of its parts has it, the choice of distinct alternatives has likewise.
use Rattle.std.proofs.Common.{◌≡◌, Bool, false, not, List, [], ◌∷◌, ◌++◌, filter, fold, sym, ◌∙◌, ap, ◌⊎◌, inl, inr}
use Rattle.poets_syntax.specs.Contract.{Contract, Failure, Plus}
use Rattle.poets_syntax.proofs.Replacing.{truth}
use Rattle.poets_calculus.specs.Alike.{Alike, alike}
use Rattle.poets_calculus.proofs.AlikeTests.{alike_iff}
use Rattle.poets_calculus.proofs.Multisets.{Alike-sym}
use Rattle.poets_calculus.specs.Normal.{alternatives, distinct, choice, plus}

not_other : (c x : Contract) → not (alike c x) ≡ false → Alike c x
not_other c x e = (alike_iff c x).0 (elim (truth (alike c x)) [ inl k ↦ k | inr k ↦ absurd (let j : not false ≡ false = ap not (sym k) ∙ e in cc) ])

-- a choice has it exactly where one of its parts has it, `Failure` has it not, and what is alike has it likewise
pub record IsOfSomePart (P : Contract → Type 0) : Type 0 where
  pub none : P Failure → ⊥
  pub left : (a b : Contract) → P a → P (Plus a b)
  pub right : (a b : Contract) → P b → P (Plus a b)
  pub parts : (a b : Contract) → P (Plus a b) → P a ⊎ P b
  pub alike : (a b : Contract) → Alike a b → P a → P b

-- some contract of the list has it
data Some_of (P : Contract → Type 0) : List Contract → Type 0 where
  Here : {c : Contract} {cs : List Contract} → P c → Some_of P (c ∷ cs)
  There : {c : Contract} {cs : List Contract} → Some_of P cs → Some_of P (c ∷ cs)

module _ (P : Contract → Type 0) (of : IsOfSomePart P) where
  from_front : {xs : List Contract} (ys : List Contract) → Some_of P xs → Some_of P (xs ++ ys)
  from_front ys (Some_of.Here m) = Some_of.Here m
  from_front ys (Some_of.There h) = Some_of.There (from_front ys h)

  from_back : (xs : List Contract) {ys : List Contract} → Some_of P ys → Some_of P (xs ++ ys)
  from_back [] h = h
  from_back (x ∷ xs) h = Some_of.There (from_back xs h)

  in_part : (xs : List Contract) {ys : List Contract} → Some_of P (xs ++ ys) → Some_of P xs ⊎ Some_of P ys
  in_part [] h = inr h
  in_part (x ∷ xs) (Some_of.Here m) = inl (Some_of.Here m)
  in_part (x ∷ xs) (Some_of.There h) = elim (in_part xs h) [ inl k ↦ inl (Some_of.There k) | inr k ↦ inr k ]

  alternatives_in : (c : Contract) → P c → Some_of P (alternatives c)
  alternatives_in Failure h = absurd (of.none h)
  alternatives_in (Plus a b) h = elim (of.parts a b h) [
    | inl k ↦ from_front (alternatives b) (alternatives_in a k)
    | inr k ↦ from_back (alternatives a) (alternatives_in b k)
  ]
  alternatives_in _ h = Some_of.Here h

  only : {c : Contract} → Some_of P (c ∷ []) → P c
  only (Some_of.Here m) = m
  only (Some_of.There h) = elim h [ ]

  alternatives_out : (c : Contract) → Some_of P (alternatives c) → P c
  alternatives_out Failure h = elim h [ ]
  alternatives_out (Plus a b) h = elim (in_part (alternatives a) h) [
    | inl k ↦ of.left a b (alternatives_out a k)
    | inr k ↦ of.right a b (alternatives_out b k)
  ]
  alternatives_out _ h = only h

  kept : (p : Contract → Bool) (c : Contract) → ((x : Contract) → p x ≡ false → Alike c x) → (xs : List Contract) →
      Some_of P xs → Some_of P (filter p xs) ⊎ P c
  kept p c same [] h = elim h [ ]
  kept p c same (x ∷ xs) (Some_of.Here m) = elim (truth (p x)) [
    | inl e ↦ rw e (inl (Some_of.Here m))
    | inr e ↦ inr (of.alike x c (Alike-sym (same x e)) m)
  ]
  kept p c same (x ∷ xs) (Some_of.There h) = elim (kept p c same xs h) [
    | inl k ↦ elim (truth (p x)) [ inl e ↦ rw e (inl (Some_of.There k)) | inr e ↦ rw e (inl k) ]
    | inr m ↦ inr m
  ]

  unfiltered : (p : Contract → Bool) (xs : List Contract) → Some_of P (filter p xs) → Some_of P xs
  unfiltered p [] h = h
  unfiltered p (x ∷ xs) h = elim (truth (p x)) [
    | inl e ↦ (let k : Some_of P (x ∷ filter p xs) = rw e at h in elim k [ Some_of.Here m ↦ Some_of.Here m | Some_of.There l ↦ Some_of.There (unfiltered p xs l) ])
    | inr e ↦ Some_of.There (unfiltered p xs (rw e at h))
  ]

  distinct_in : (cs : List Contract) → Some_of P cs → Some_of P (distinct cs)
  distinct_in [] h = elim h [ ]
  distinct_in (c ∷ cs) (Some_of.Here m) = Some_of.Here m
  distinct_in (c ∷ cs) (Some_of.There h) = elim (kept (λ d. not (alike c d)) c (not_other c) (distinct cs) (distinct_in cs h)) [
    | inl k ↦ Some_of.There k
    | inr m ↦ Some_of.Here m
  ]

  distinct_out : (cs : List Contract) → Some_of P (distinct cs) → Some_of P cs
  distinct_out [] h = h
  distinct_out (c ∷ cs) (Some_of.Here m) = Some_of.Here m
  distinct_out (c ∷ cs) (Some_of.There h) = Some_of.There (distinct_out cs (unfiltered (λ d. not (alike c d)) (distinct cs) h))

  first_in : (c : Contract) (cs : List Contract) → P c → P (fold Plus c cs)
  first_in c [] m = m
  first_in c (d ∷ cs) m = first_in (Plus c d) cs (of.left c d m)

  later_in : (c : Contract) (cs : List Contract) → Some_of P cs → P (fold Plus c cs)
  later_in c [] h = elim h [ ]
  later_in c (d ∷ cs) (Some_of.Here m) = first_in (Plus c d) cs (of.right c d m)
  later_in c (d ∷ cs) (Some_of.There h) = later_in (Plus c d) cs h

  part_of : (c d : Contract) (cs : List Contract) → P (Plus c d) → Some_of P (c ∷ d ∷ cs)
  part_of c d cs m = elim (of.parts c d m) [ inl h ↦ Some_of.Here h | inr h ↦ Some_of.There (Some_of.Here h) ]

  fold_out : (c : Contract) (cs : List Contract) → P (fold Plus c cs) → Some_of P (c ∷ cs)
  fold_out c [] m = Some_of.Here m
  fold_out c (d ∷ cs) m = elim (fold_out (Plus c d) cs m) [
    | Some_of.Here k ↦ part_of c d cs k
    | Some_of.There h ↦ Some_of.There (Some_of.There h)
  ]

  choice_in : (cs : List Contract) → Some_of P cs → P (choice cs)
  choice_in [] h = elim h [ ]
  choice_in (c ∷ cs) (Some_of.Here m) = first_in c cs m
  choice_in (c ∷ cs) (Some_of.There h) = later_in c cs h

  choice_out : (cs : List Contract) → P (choice cs) → Some_of P cs
  choice_out [] m = absurd (of.none m)
  choice_out (c ∷ cs) m = fold_out c cs m

  pub plus_in : (a b : Contract) → P (Plus a b) → P (plus a b)
  plus_in a b m = choice_in (distinct (alternatives a ++ alternatives b)) (distinct_in (alternatives a ++ alternatives b) (alternatives_in (Plus a b) m))

  pub plus_out : (a b : Contract) → P (plus a b) → P (Plus a b)
  plus_out a b m = alternatives_out (Plus a b) (distinct_out (alternatives a ++ alternatives b) (choice_out (distinct (alternatives a ++ alternatives b)) m))
