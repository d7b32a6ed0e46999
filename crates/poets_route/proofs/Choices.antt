-- Alternatives, and ways of choices.
use Rattle.std.proofs.Common.{◌≡◌, ◌<◌, ◌∙◌, Bool, true, false, IsTrue, ◌↔◌, List, [], ◌∷◌, ◌++◌, refl, sym, subst, arith, ◌⊎◌, inl, inr}
use Rattle.std.specs.List.{All, Contains}
use Rattle.std.proofs.lemmas.List.Elements.{All-contains, All-contains_itself, Contains-append_right, Contains-append_cases, Contains-push_cases}
use Rattle.poets_syntax.specs.Contract.{Contract, Failure, Plus}
use Rattle.poets_calculus.specs.Normal.{alternatives, distinct, plus}
use Rattle.poets_norm.proofs.Alternatives.{alternatives-distinct_choice}
use Rattle.poets_norm.proofs.Parts.{All-distinct}
use Rattle.poets_way.specs.Way.{Way}
use Rattle.poets_way.specs.Way as W
use Rattle.poets_way.specs.Ways.{Ways}
use Rattle.poets_route.specs.code.Choices.{IsAlternative, Chooses, Embeds}

-- an alternative of a choice is one of its left part or of its right part
pub of_choice : (a b c : Contract) → IsAlternative (Plus a b) c → IsAlternative a c ⊎ IsAlternative b c
of_choice a b c h = Contains-append_cases (alternatives a) (alternatives b) c h

pub in_right : (a b c : Contract) → IsAlternative b c → IsAlternative (Plus a b) c
in_right a b c h = Contains-append_right (alternatives a) (alternatives b) c h

-- what is kept is an alternative of one of both
pub of_plus : (a b c : Contract) → IsAlternative (plus a b) c → IsAlternative a c ⊎ IsAlternative b c
of_plus a b c h =
    let both = alternatives a ++ alternatives b in
    let kept = subst (λ xs. Contains xs c) (alternatives-distinct_choice (Plus a b)) h in
    of_choice a b c (All-contains (Contains both) (distinct both) c (All-distinct (Contains both) both (All-contains_itself both)) kept)

-- there is none in an empty list
none_in : {P : Type 0} (c : Contract) → Contains [] c → P
none_in c h = absurd (let l : h.0 < 0 = h.1 in omega (arith, l))

-- `Failure` has no alternative
pub no_alternative : {P : Type 0} (c : Contract) → IsAlternative Failure c → P
no_alternative c h = none_in c h

-- a contract that is no choice is its own one alternative
pub one_alternative : (a c : Contract) → Contains (a ∷ []) c → a ≡ c
one_alternative a c h = elim (Contains-push_cases [] a c h) [
  | inl none ↦ none_in c none
  | inr e ↦ e
]

pub itself : (c : Contract) → Contains (c ∷ []) c
itself c = (0, omega arith, refl)

-- the way of a choice is that of the alternative which it takes
pub chooses-right : (a b c : Contract) (w v : Way) → Chooses b c w v → Chooses (Plus a b) c (W.Right w) v
chooses-right a b c w v h book env s (Ways.Right k) = let r = h book env s k in (in_right a b c r.0, r.1)

-- the way of an alternative is a way of the choice
pub embeds-right : (a b c : Contract) (v w : Way) → IsAlternative b c → Embeds b c v w → Embeds (Plus a b) c v (W.Right w)
embeds-right a b c v w i h book env s j way = Ways.Right (h book env s i way)

pub embeds-left : (a b c : Contract) (v w : Way) → (IsAlternative b c → ⊥) → Embeds a c v w → Embeds (Plus a b) c v (W.Left w)
embeds-left a b c v w i h book env s j way = elim (of_choice a b c j) [
  | inl l ↦ Ways.Left (h book env s l way)
  | inr r ↦ absurd (i r)
]

-- what a test refused does not hold
pub refused : {P : Type 0} (r : Bool) → IsTrue r ↔ P → r ≡ false → P → ⊥
refused r iff e h = absurd (let y : true ≡ false = sym (iff.1 h) ∙ e in cc)

-- ---- the same, where what is at hand is equal to the parts

pub has_last : (c a b d x : Contract) (r : Bool) → c ≡ Plus a b → d ≡ b → r ≡ true → IsTrue r ↔ IsAlternative d x → IsTrue r ↔ IsAlternative c x
has_last c a b d x r whole last e iff = (
  (λ t. subst (λ y. IsAlternative y x) (sym whole) (in_right a b x (subst (λ y. IsAlternative y x) last (iff.0 t)))),
  (λ h. e),
)

pub chooses_last : (c a b d x : Contract) (w v u : Way) → c ≡ Plus a b → d ≡ b → w ≡ W.Right v → Chooses d x v u → Chooses c x w u
chooses_last c a b d x w v u whole last head h =
    subst (λ y. Chooses y x w u) (sym whole)
    (subst (λ y. Chooses (Plus a b) x y u) (sym head) (chooses-right a b x v u (subst (λ y. Chooses y x v u) last h)))

-- a choice of two, and its last one
module _ (c a b d : Contract) (whole : c ≡ Plus a b) (last : d ≡ b) where
  pub embeds_last : (d' x : Contract) (v w : Way) → d' ≡ b → IsAlternative d x → Embeds d' x v w → Embeds c x v (W.Right w)
  embeds_last d' x v w last' i h =
      subst (λ y. Embeds y x v (W.Right w)) (sym whole)
      (embeds-right a b x v w (subst (λ y. IsAlternative y x) last i) (subst (λ y. Embeds y x v w) last' h))

  pub embeds_front : (d' x : Contract) (v w : Way) → d' ≡ a → (IsAlternative d x → ⊥) → Embeds d' x v w → Embeds c x v (W.Left w)
  embeds_front d' x v w front i h =
      subst (λ y. Embeds y x v (W.Left w)) (sym whole)
      (embeds-left a b x v w (λ j. i (subst (λ y. IsAlternative y x) (sym last) j)) (subst (λ y. Embeds y x v w) front h))
