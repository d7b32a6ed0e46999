-- Numbers that a choice and a `||` have of their parts: the builders make them no greater.
use Rattle.std.proofs.Common.{◌≡◌, ℕ, ◌+◌, ◌≤◌, Bool, not, List, [], ◌∷◌, ◌++◌, filter, fold, inl, inr, arith, ap}
use Rattle.poets_syntax.specs.Contract.{Contract, Failure, Plus, Par}
use Rattle.poets_syntax.proofs.Replacing.{truth}
use Rattle.poets_calculus.specs.Alike.{alike, parts}
use Rattle.poets_calculus.specs.Normal.{alternatives, distinct, choice, plus, side_by_side, par}
use Rattle.poets_calculus.proofs.Regrouping.{first_part}
use Rattle.poets_norm.proofs.Parts.{par_is}

-- a choice and a `||` have the sum of their parts and one number more, and `Failure` has no more than that number
pub record IsMeasure (k : ℕ) (m : Contract → ℕ) : Type 0 where
  pub failure : m Failure ≤ k
  pub plus : (a b : Contract) → m (Plus a b) ≡ k + m a + m b
  pub par : (a b : Contract) → m (Par a b) ≡ k + m a + m b

module _ (k : ℕ) (m : Contract → ℕ) (of : IsMeasure k m) where
  abbrev total : List Contract → ℕ
  total [] = 0
  total (c ∷ cs) = k + m c + total cs

  total-append : (cs ds : List Contract) → total (cs ++ ds) ≡ total cs + total ds
  total-append [] ds = omega arith
  total-append (c ∷ cs) ds = omega (arith, total-append cs ds)

  total-alternatives : (c : Contract) → total (alternatives c) ≤ k + m c
  total-alternatives Failure = omega arith
  total-alternatives (Plus a b) =
      omega (arith, total-append (alternatives a) (alternatives b), total-alternatives a, total-alternatives b, of.plus a b)
  total-alternatives _ = omega arith

  total-filter : (p : Contract → Bool) (cs : List Contract) → total (filter p cs) ≤ total cs
  total-filter p [] = omega arith
  total-filter p (c ∷ cs) =
      let rest = total-filter p cs in
      elim (truth (p c)) [ inl e ↦ rw e (omega (arith, rest)) | inr e ↦ rw e (omega (arith, rest)) ]

  total-distinct : (cs : List Contract) → total (distinct cs) ≤ total cs
  total-distinct [] = omega arith
  total-distinct (c ∷ cs) = omega (arith, total-filter (λ d. not (alike c d)) (distinct cs), total-distinct cs)

  total-fold : (c : Contract) (cs : List Contract) → k + m (fold Plus c cs) ≡ total (c ∷ cs)
  total-fold c [] = omega arith
  total-fold c (d ∷ cs) = omega (arith, total-fold (Plus c d) cs, of.plus c d)

  choice-le : (n : ℕ) (cs : List Contract) → k ≤ n → total cs ≤ k + n → m (choice cs) ≤ n
  choice-le n [] l h = omega (arith, of.failure, l)
  choice-le n (c ∷ cs) l h = omega (arith, total-fold c cs, h)

  pub plus-le : (a b : Contract) → m (plus a b) ≤ k + m a + m b
  plus-le a b =
      let all = alternatives a ++ alternatives b in
      choice-le (k + m a + m b) (distinct all) (omega arith)
      (omega (arith, total-distinct all, total-append (alternatives a) (alternatives b), total-alternatives a, total-alternatives b))

  total-parts : (c : Contract) → total (parts c) ≡ k + m c
  total-parts (Par a b) = omega (arith, total-append (parts a) (parts b), total-parts a, total-parts b, of.par a b)
  total-parts _ = omega arith

  total-side : (c : Contract) (cs : List Contract) → k + m (fold Par c cs) ≡ total (c ∷ cs)
  total-side c [] = omega arith
  total-side c (d ∷ cs) = omega (arith, total-side (Par c d) cs, of.par c d)

  regrouped-is : (c : Contract) → m (side_by_side (parts c)) ≡ m c
  regrouped-is c =
      let f = first_part c in
      rw f.2 (omega (arith, total-side f.0 f.1, ap total f.2, total-parts c))

  pub par-le : (a b : Contract) → m (par a b) ≤ k + m a + m b
  par-le a b = elim (par_is a b) [
    | inl e ↦ rw e (omega arith)
    | inr (inl e) ↦ rw e (omega arith)
    | inr (inr j) ↦ rw j.0 (omega (arith, regrouped-is (Par a b), of.par a b))
  ]
