-- Lists that are joined, and lists that are interleaved.
use Rattle.std.proofs.Common.{◌≡◌, ◌+◌, List, [], ◌∷◌, ◌++◌, length, refl, sym, ap, ap₂, arith, ◌⊎◌, inl, inr}
use Rattle.poets_meaning.specs.Between.{Between}

-- no item stands in a part of the empty list
pub parts_of_nil : {A : Type 0} (xs ys : List A) → [] ≡ xs ++ ys → (xs ≡ []) × (ys ≡ [])
parts_of_nil [] ys e = (refl, sym e)
parts_of_nil (x ∷ xs) ys e = absurd cc

pub Between-nil : {A : Type 0} {s₁ s₂ s : List A} → Between s₁ s₂ s → s ≡ [] → (s₁ ≡ []) × (s₂ ≡ [])
Between-nil Between.Empty e = (refl, refl)
Between-nil (Between.First b) e = absurd cc
Between-nil (Between.Second b) e = absurd cc

pub Between-length : {A : Type 0} {s₁ s₂ s : List A} → Between s₁ s₂ s → length s ≡ length s₁ + length s₂
Between-length Between.Empty = refl
Between-length (Between.First b) = omega (arith, Between-length b)
Between-length (Between.Second b) = omega (arith, Between-length b)

-- two ways to cut one list: one cut comes first
pub two_cuts : {A : Type 0} (xs ys s rest : List A) → xs ++ ys ≡ s ++ rest →
    ((m : List A) × (xs ≡ s ++ m) × (rest ≡ m ++ ys)) ⊎ ((m : List A) × (s ≡ xs ++ m) × (ys ≡ m ++ rest))
two_cuts [] ys s rest e = inr (s, refl, e)
two_cuts (x ∷ xs) ys [] rest e = inl (x ∷ xs, refl, sym e)
two_cuts {A} (x ∷ xs) ys (y ∷ s) rest e = go (two_cuts xs ys s rest cc)
  where
    go : ((m : List A) × (xs ≡ s ++ m) × (rest ≡ m ++ ys)) ⊎ ((m : List A) × (s ≡ xs ++ m) × (ys ≡ m ++ rest)) →
        ((m : List A) × (x ∷ xs ≡ (y ∷ s) ++ m) × (rest ≡ m ++ ys)) ⊎ ((m : List A) × (y ∷ s ≡ (x ∷ xs) ++ m) × (ys ≡ m ++ rest))
    go (inl p) = inl (p.0, cc, p.2)
    go (inr p) = inr (p.0, cc, p.2)

-- an interleaving that is cut is cut in both its parts
pub record Cut {A : Type 0} (s₁ s₂ s rest : List A) : Type 0 where
  pub first : List A
  pub first_rest : List A
  pub second : List A
  pub second_rest : List A
  pub one : s₁ ≡ first ++ first_rest
  pub two : s₂ ≡ second ++ second_rest
  pub front : Between first second s
  pub back : Between first_rest second_rest rest

pub Between-cut : {A : Type 0} {s₁ s₂ u : List A} → Between s₁ s₂ u → (s rest : List A) → u ≡ s ++ rest → Cut s₁ s₂ s rest
Between-cut {A} {s₁} {s₂} {u} b [] rest e = record {
  first = [];
  first_rest = s₁;
  second = [];
  second_rest = s₂;
  one = refl;
  two = refl;
  front = Between.Empty;
  back = rw e at b;
}
Between-cut Between.Empty (x ∷ s) rest e = absurd cc
Between-cut {A} (Between.First {x = y} b) (x ∷ s) rest e =
    let c = Between-cut b s rest cc in
    let p : y ≡ x = cc in
    record {
      first = x ∷ c.first;
      first_rest = c.first_rest;
      second = c.second;
      second_rest = c.second_rest;
      one = ap₂ (λ z zs. z ∷ zs) p c.one;
      two = c.two;
      front = Between.First c.front;
      back = c.back;
    }
Between-cut {A} (Between.Second {x = y} b) (x ∷ s) rest e =
    let c = Between-cut b s rest cc in
    let p : y ≡ x = cc in
    record {
      first = c.first;
      first_rest = c.first_rest;
      second = x ∷ c.second;
      second_rest = c.second_rest;
      one = c.one;
      two = ap₂ (λ z zs. z ∷ zs) p c.two;
      front = Between.Second c.front;
      back = c.back;
    }

pub Between-none : {A : Type 0} {s₁ s₂ s : List A} → Between s₁ s₂ s → s₁ ≡ [] → s₂ ≡ s
Between-none Between.Empty e = refl
Between-none (Between.First b) e = absurd cc
Between-none (Between.Second {x = x} b) e = ap (λ xs. x ∷ xs) (Between-none b e)

pub Between-swap : {A : Type 0} {s₁ s₂ s : List A} → Between s₁ s₂ s → Between s₂ s₁ s
Between-swap Between.Empty = Between.Empty
Between-swap (Between.First b) = Between.Second (Between-swap b)
Between-swap (Between.Second b) = Between.First (Between-swap b)

pub Between-all : {A : Type 0} (s : List A) → Between [] s s
Between-all [] = Between.Empty
Between-all (x ∷ s) = Between.Second (Between-all s)
