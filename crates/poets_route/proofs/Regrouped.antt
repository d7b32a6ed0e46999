-- Ways of parallel parts that are grouped otherwise.
use Rattle.std.proofs.Common.{◌≡◌, suc, Bool, true, false, List, [], ◌∷◌, length, refl, sym, ◌∙◌, ap, subst, arith, inl, inr}
use Rattle.poets_value.specs.declared.event.Event.{Event}
use Rattle.poets_expr.specs.Env.{Env}
use Rattle.poets_syntax.specs.Contract.{Contract, Par}
use Rattle.poets_syntax.specs.Plain.{Book}
use Rattle.poets_meaning.specs.Marks.{Marks}
use Rattle.poets_calculus.specs.Normal.{normal}
use Rattle.poets_calculus.proofs.Regrouping.{regrouped-last}
use Rattle.poets_norm.specs.Choices.{regrouped}
use Rattle.poets_norm.specs.code.Grouping.{beside_parts}
use Rattle.poets_route.proofs.Parted.{beside_two}
use Rattle.poets_norm.proofs.NormalForms.{IsBuilt, built-normal}
use Rattle.poets_way.specs.Way.{Way}
use Rattle.poets_way.specs.Way as W
use Rattle.poets_way.specs.Ways.{Ways, first_of, second_of}
use Rattle.poets_route.specs.code.Grouping.{Takes, AreSidesOfFirst, IsGroupedRight}
use Rattle.poets_route.specs.code.Reading.{IsBoth}
use Rattle.poets_way.proofs.Sided.{seconds_and_first}
use Rattle.poets_route.specs.code.Sides.{outer, inner}

-- what is grouped to the left stays
regrouped_built : (book : Book) (marks : Marks) (c : Contract) → IsBuilt book marks c → regrouped c ≡ c
regrouped_built book marks (Par a b) h = regrouped-last a b h.4 ∙ ap (λ x. Par x b) (regrouped_built book marks a h.0)
regrouped_built book marks _ h = refl

-- the parallel parts of a normal form are grouped to the left
pub regrouped_normal : (book : Book) (marks : Marks) (c : Contract) → regrouped (normal book marks c) ≡ normal book marks c
regrouped_normal book marks c = elim (built-normal book marks c) [
  | inl e ↦ rw e refl
  | inr h ↦ regrouped_built book marks (normal book marks c) h
]

-- three contracts, grouped to the left and to the right
outer_length : {A : Type 0} (last second : List Bool) (s : List A) → length last ≡ length s → length second ≡ length (first_of last s) →
    length (outer last second) ≡ length s
outer_length [] second [] l m = refl
outer_length [] second (x ∷ s) l m = absurd cc
outer_length (b ∷ last) second [] l m = absurd cc
outer_length (true ∷ last) second (x ∷ s) l m = ap suc (outer_length last second s (omega (arith, l)) m)
outer_length (false ∷ last) [] (x ∷ s) l m = absurd cc
outer_length (false ∷ last) (b ∷ second) (x ∷ s) l m = ap suc (outer_length last second s (omega (arith, l)) (omega (arith, m)))

outer_first : {A : Type 0} (last second : List Bool) (s : List A) → length last ≡ length s → length second ≡ length (first_of last s) →
    first_of (outer last second) s ≡ first_of second (first_of last s)
outer_first [] [] [] l m = refl
outer_first [] (b ∷ second) [] l m = absurd cc
outer_first [] second (x ∷ s) l m = absurd cc
outer_first (b ∷ last) second [] l m = absurd cc
outer_first (true ∷ last) second (x ∷ s) l m = outer_first last second s (omega (arith, l)) m
outer_first (false ∷ last) [] (x ∷ s) l m = absurd cc
outer_first (false ∷ last) (true ∷ second) (x ∷ s) l m = outer_first last second s (omega (arith, l)) (omega (arith, m))
outer_first (false ∷ last) (false ∷ second) (x ∷ s) l m =
    ap (λ u. x ∷ u) (outer_first last second s (omega (arith, l)) (omega (arith, m)))

inner_length : {A : Type 0} (last second : List Bool) (s : List A) → length last ≡ length s → length second ≡ length (first_of last s) →
    length (inner last second) ≡ length (second_of (outer last second) s)
inner_length [] second [] l m = refl
inner_length [] second (x ∷ s) l m = absurd cc
inner_length (b ∷ last) second [] l m = absurd cc
inner_length (true ∷ last) second (x ∷ s) l m = ap suc (inner_length last second s (omega (arith, l)) m)
inner_length (false ∷ last) [] (x ∷ s) l m = absurd cc
inner_length (false ∷ last) (true ∷ second) (x ∷ s) l m = ap suc (inner_length last second s (omega (arith, l)) (omega (arith, m)))
inner_length (false ∷ last) (false ∷ second) (x ∷ s) l m = inner_length last second s (omega (arith, l)) (omega (arith, m))

inner_first : {A : Type 0} (last second : List Bool) (s : List A) → length last ≡ length s → length second ≡ length (first_of last s) →
    first_of (inner last second) (second_of (outer last second) s) ≡ second_of second (first_of last s)
inner_first [] [] [] l m = refl
inner_first [] (b ∷ second) [] l m = absurd cc
inner_first [] second (x ∷ s) l m = absurd cc
inner_first (b ∷ last) second [] l m = absurd cc
inner_first (true ∷ last) second (x ∷ s) l m = inner_first last second s (omega (arith, l)) m
inner_first (false ∷ last) [] (x ∷ s) l m = absurd cc
inner_first (false ∷ last) (true ∷ second) (x ∷ s) l m =
    ap (λ u. x ∷ u) (inner_first last second s (omega (arith, l)) (omega (arith, m)))
inner_first (false ∷ last) (false ∷ second) (x ∷ s) l m = inner_first last second s (omega (arith, l)) (omega (arith, m))

inner_second : {A : Type 0} (last second : List Bool) (s : List A) → length last ≡ length s → length second ≡ length (first_of last s) →
    second_of (inner last second) (second_of (outer last second) s) ≡ second_of last s
inner_second [] second [] l m = refl
inner_second [] second (x ∷ s) l m = absurd cc
inner_second (b ∷ last) second [] l m = absurd cc
inner_second (true ∷ last) second (x ∷ s) l m = ap (λ u. x ∷ u) (inner_second last second s (omega (arith, l)) m)
inner_second (false ∷ last) [] (x ∷ s) l m = absurd cc
inner_second (false ∷ last) (true ∷ second) (x ∷ s) l m = inner_second last second s (omega (arith, l)) (omega (arith, m))
inner_second (false ∷ last) (false ∷ second) (x ∷ s) l m = inner_second last second s (omega (arith, l)) (omega (arith, m))

-- a way of three contracts grouped to the left is one of them grouped to the right
assoc : {book : Book} {env : Env} {x u v : Contract} {s : List Event} (last second : List Bool) (p q r : Way) →
    length last ≡ length s → Ways book env (Par x u) (first_of last s) (W.Both second p q) → Ways book env v (second_of last s) r →
    Ways book env (Par x (Par u v)) s (W.Both (outer last second) p (W.Both (inner last second) q r))
assoc {book} {env} {x} {u} {v} {s} last second p q r l (Ways.Both m h k) i =
    Ways.Both (outer_length last second s l m)
    (subst (λ t. Ways book env x t p) (sym (outer_first last second s l m)) h)
    (Ways.Both (inner_length last second s l m)
    (subst (λ t. Ways book env u t q) (sym (inner_first last second s l m)) k)
    (subst (λ t. Ways book env v t r) (sym (inner_second last second s l m)) i))

-- the sides of the events are those of as many
fit_of : {A : Type 0} (last second : List Bool) (s : List A) → length last ≡ length s → length second ≡ length (first_of last s) → AreSidesOfFirst last second
fit_of last second s l m = let all = seconds_and_first last s l in omega (arith, all, l, m)

assoc_made : {book : Book} {env : Env} {x u v : Contract} {s : List Event} (last second : List Bool) (p q r made : Way) →
    length last ≡ length s → IsGroupedRight last second p q r made → Ways book env (Par x u) (first_of last s) (W.Both second p q) →
    Ways book env v (second_of last s) r → Ways book env (Par x (Par u v)) s made
assoc_made {book} {env} {x} {u} {v} {s} last second p q r made l g (Ways.Both m h k) i =
    subst (λ w. Ways book env (Par x (Par u v)) s w) (sym (g (fit_of last second s l m))) (assoc last second p q r l (Ways.Both m h k) i)

-- the parts of the second come before its last one
module _ (u v : Contract) (w r : Way) (last second : List Bool) (first p q made : Way) where
  from_outer : {book : Book} {env : Env} {x : Contract} {s : List Event} → Takes u first (W.Both second p q) → IsGroupedRight last second p q r made →
      Ways book env (Par (beside_parts x u) v) s (W.Both last first r) → Ways book env (Par x (Par u v)) s made
  from_outer {book} {env} {x} {s} h g (Ways.Both l k i) = assoc_made last second p q r made l g (h book env x (first_of last s) k) i

  pub takes-more : Takes v w (W.Both last first r) → Takes u first (W.Both second p q) → IsGroupedRight last second p q r made → Takes (Par u v) w made
  takes-more h k g book env x s way =
      from_outer k g (h book env (beside_parts x u) s (subst (λ y. Ways book env y s w) (beside_two x u v) way))

-- a way of two contracts side by side has sides
pub is_both : {book : Book} {env : Env} {x y : Contract} {s : List Event} {w : Way} → Ways book env (Par x y) s w → IsBoth w
is_both (Ways.Both l h k) = IsBoth.Both

-- so one that has none takes nothing
pub takes-outer : (u v : Contract) (w o r : Way) → Takes v w o → (IsBoth o → ⊥) → Takes (Par u v) w r
takes-outer u v w o r h absent book env x s way =
    absurd (absent (is_both (h book env (beside_parts x u) s (subst (λ y. Ways book env y s w) (beside_two x u v) way))))

first_both : {book : Book} {env : Env} (x : Contract) {u v : Contract} {s : List Event} {last : List Bool} {first r o : Way} →
    Takes u first o → Ways book env (Par (beside_parts x u) v) s (W.Both last first r) → IsBoth o
first_both {book} {env} x {s = s} {last = last} h (Ways.Both l k i) = is_both (h book env x (first_of last s) k)

pub takes-inner : (u v : Contract) (w first r o z : Way) (last : List Bool) → Takes v w (W.Both last first r) → Takes u first o → (IsBoth o → ⊥) →
    Takes (Par u v) w z
takes-inner u v w first r o z last h k absent book env x s way =
    absurd (absent (first_both x k (h book env (beside_parts x u) s (subst (λ y. Ways book env y s w) (beside_two x u v) way))))

-- ---- the same, where what is at hand is equal to the parts

-- two contracts side by side, and a way of the second taken apart
module _ (c u v u' v' : Contract) (whole : c ≡ Par u v) (last_is : v' ≡ v) (first_is : u' ≡ u) where
  module _ (w o first r : Way) (last : List Bool) (h : Takes v' w o) (head : o ≡ W.Both last first r) (n : Way) (k : Takes u' first n) where
    pub inner_taken : (z : Way) → (IsBoth n → ⊥) → Takes c w z
    inner_taken z absent =
        subst (λ x. Takes x w z) (sym whole)
        (takes-inner u v w first r n z last (subst (λ y. Takes v w y) head (subst (λ x. Takes x w o) last_is h)) (subst (λ x. Takes x first n) first_is k) absent)

    pub more_taken : (r' p q made : Way) (last' second : List Bool) → n ≡ W.Both second p q → last' ≡ last → r' ≡ r →
        IsGroupedRight last' second p q r' made → Takes c w made
    more_taken r' p q made last' second front sides third g =
        subst (λ x. Takes x w made) (sym whole)
        (takes-more u v w r last second first p q made (subst (λ y. Takes v w y) head (subst (λ x. Takes x w o) last_is h))
        (subst (λ y. Takes u first y) front (subst (λ x. Takes x first n) first_is k))
        (subst (λ y. IsGroupedRight last second p q y made) third (subst (λ y. IsGroupedRight y second p q r' made) sides g)))
