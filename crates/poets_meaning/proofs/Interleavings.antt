-- The laws of interleavings: of three lists any two may be joined first, and what is put in twice can be taken out in
-- either order.
use Rattle.std.proofs.Common.{◌≡◌, List, [], ◌∷◌, ◌++◌, sym, ◌∙◌, ap, subst, ◌⊎◌, inl, inr}
use Rattle.poets_meaning.specs.Between.{Between}
use Rattle.poets_meaning.proofs.Lists.{Between-swap, Between-all, Between-none}

-- three lists joined: the second and the third first, or the first and the second first
pub Between-group : {A : Type 0} {a r s b c : List A} → Between a r s → Between b c r → (u : List A) × Between a b u × Between u c s
Between-group Between.Empty Between.Empty = ([], Between.Empty, Between.Empty)
Between-group (Between.First {x = x} i) j = let k = Between-group i j in (x ∷ k.0, Between.First k.1, Between.First k.2)
Between-group (Between.Second {x = x} i) (Between.First j) = let k = Between-group i j in (x ∷ k.0, Between.Second k.1, Between.First k.2)
Between-group (Between.Second {x = x} i) (Between.Second j) = let k = Between-group i j in (k.0, k.1, Between.Second k.2)

-- the other way
pub Between-regroup : {A : Type 0} {a b u c s : List A} → Between a b u → Between u c s → (r : List A) × Between b c r × Between a r s
Between-regroup i j =
    let k = Between-group (Between-swap j) (Between-swap i) in
    (k.0, Between-swap k.1, Between-swap k.2)

-- two lists put into a third one after the other may be put in in the other order
pub Between-exchange : {A : Type 0} {a r s b c : List A} → Between a r s → Between b c r → (u : List A) × Between a c u × Between b u s
Between-exchange i j =
    let k = Between-group i (Between-swap j) in
    (k.0, k.1, Between-swap k.2)

pub Between-append : {A : Type 0} (xs ys : List A) → Between xs ys (xs ++ ys)
Between-append [] ys = Between-all ys
Between-append (x ∷ xs) ys = Between.First (Between-append xs ys)

-- two ways to take one item out of a list: at one place, or at two
pub record Apart {A : Type 0} (x y : A) (without_x without_y : List A) : Type 0 where
  pub rest : List A
  pub first : Between (x ∷ []) rest without_y
  pub second : Between (y ∷ []) rest without_x

abbrev pub OnePlace : {A : Type 0} → (x y : A) → (without_x without_y : List A) → Type 0
OnePlace x y xs ys = (x ≡ y) × (xs ≡ ys)

only_item : {A : Type 0} {x y : A} {xs : List A} → x ∷ xs ≡ y ∷ [] → (x ≡ y) × (xs ≡ [])
only_item e = (cc, cc)

pub two_taken : {A : Type 0} {one two xs ys all : List A} → (x y : A) → one ≡ x ∷ [] → two ≡ y ∷ [] → Between one xs all → Between two ys all →
    OnePlace x y xs ys ⊎ Apart x y xs ys
two_taken x y e f Between.Empty j = absurd cc
two_taken x y e f (Between.First i) (Between.First j) =
    let p = only_item e in
    let q = only_item f in
    inl (sym p.0 ∙ q.0, Between-none i p.1 ∙ sym (Between-none j q.1))
two_taken x y e f (Between.First {s₂ = xs} {s = s} i) (Between.Second {s₁ = two} {s₂ = ys} j) =
    let p = only_item e in
    inr (record {
      rest = ys;
      first = subst (λ z. Between (x ∷ []) ys (z ∷ ys)) (sym p.0) (Between.First (Between-all ys));
      second = subst (λ all. Between (y ∷ []) ys all) (sym (Between-none i p.1)) (subst (λ zs. Between zs ys s) f j);
    })
two_taken x y e f (Between.Second {s₁ = one} {s₂ = xs} {s = s} i) (Between.First {s₂ = ys} j) =
    let q = only_item f in
    inr (record {
      rest = xs;
      first = subst (λ all. Between (x ∷ []) xs all) (sym (Between-none j q.1)) (subst (λ zs. Between zs xs s) e i);
      second = subst (λ z. Between (y ∷ []) xs (z ∷ xs)) (sym q.0) (Between.First (Between-all xs));
    })
two_taken x y e f (Between.Second {x = z} i) (Between.Second j) = elim (two_taken x y e f i j) [
  | inl p ↦ inl (p.0, ap (λ zs. z ∷ zs) p.1)
  | inr p ↦ inr (record { rest = z ∷ p.rest; first = Between.Second p.first; second = Between.Second p.second })
]

-- more at the end
pub Between-onto : {A : Type 0} {xs ys zs : List A} → Between xs ys zs → (more : List A) → Between xs (ys ++ more) (zs ++ more)
Between-onto Between.Empty more = Between-all more
Between-onto (Between.First i) more = Between.First (Between-onto i more)
Between-onto (Between.Second i) more = Between.Second (Between-onto i more)
