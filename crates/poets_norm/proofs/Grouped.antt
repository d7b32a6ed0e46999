-- Parallel parts grouped to the left.
use Rattle.std.proofs.Common.{◌≡◌, true, ◌++◌, refl, sym, ◌∙◌, ap, subst, inl, inr, append_assoc}
use Rattle.std.proofs.lemmas.List.Sums.{fold-append}
use Rattle.poets_expr.proofs.SameTrees.{both_true}
use Rattle.poets_syntax.specs.Contract.{Contract, Success, Failure, Par}
use Rattle.poets_calculus.specs.Alike.{Alike, parts}
use Rattle.poets_calculus.specs.Normal.{par, side_by_side}
use Rattle.poets_calculus.proofs.AlikeTests.{IsPart}
use Rattle.poets_calculus.proofs.Regrouping.{Alike-regrouped, parts-regrouped, regrouped-more, regrouped-last}
use Rattle.poets_cons.specs.Forms.{is_grouped, is_single}
use Rattle.poets_norm.specs.Choices.{regrouped}
use Rattle.poets_norm.specs.code.Grouping.{beside_parts}
use Rattle.poets_norm.proofs.Parts.{IsProper, proper, par-failure, par_joined}

-- the parts of two contracts, one after the other
pub regrouped_two : (a b : Contract) → regrouped (Par a b) ≡ beside_parts (regrouped a) b
regrouped_two a b = regrouped-more a (parts b)

pub beside_two : (c a b : Contract) → beside_parts c (Par a b) ≡ beside_parts (beside_parts c a) b
beside_two c a b = fold-append Par c (parts a) (parts b)

single_is_part : (c : Contract) → is_single c ≡ true → IsPart c
single_is_part (Par a b) e = absurd cc
single_is_part _ e = tt

-- what is grouped to the left stays
pub regrouped_grouped : (c : Contract) → is_grouped c ≡ true → regrouped c ≡ c
regrouped_grouped (Par a b) e =
    let h = both_true (is_grouped a) (is_single b) e in
    regrouped-last a b (single_is_part b h.1) ∙ ap (λ x. Par x b) (regrouped_grouped a h.0)
regrouped_grouped _ e = refl

-- what is joined is neither `Failure` nor `Success`
not_failure : (a b : Contract) → Alike (Par a b) Failure → ⊥
not_failure a b h = elim h [ ]

not_success : (a b : Contract) → Alike (Par a b) Success → ⊥
not_success a b h = elim h [ ]

joined_proper : (a b : Contract) → IsProper (regrouped (Par a b))
joined_proper a b = elim (proper (regrouped (Par a b))) [
  | inl e ↦ absurd (not_failure a b (subst (λ c. Alike (Par a b) c) e (Alike-regrouped (Par a b))))
  | inr (inl e) ↦ absurd (not_success a b (subst (λ c. Alike (Par a b) c) e (Alike-regrouped (Par a b))))
  | inr (inr h) ↦ h
]

joined_par : (a b c : Contract) → IsProper a → IsProper b → IsProper c → par (par a b) c ≡ par a (par b c)
joined_par a b c h k l =
    let left : par (par a b) c ≡ side_by_side ((parts a ++ parts b) ++ parts c) =
    ap (λ x. par x c) (par_joined a b h k) ∙ par_joined (regrouped (Par a b)) c (joined_proper a b) l
    ∙ ap (λ xs. side_by_side (xs ++ parts c)) (parts-regrouped (Par a b)) in
    let right : par a (par b c) ≡ side_by_side (parts a ++ (parts b ++ parts c)) =
    ap (par a) (par_joined b c k l) ∙ par_joined a (regrouped (Par b c)) h (joined_proper b c)
    ∙ ap (λ xs. side_by_side (parts a ++ xs)) (parts-regrouped (Par b c)) in
    left ∙ ap side_by_side (append_assoc (parts a) (parts b) (parts c)) ∙ sym right

-- `Success` leaves the other
par-first : (b : Contract) → par Success b ≡ b
par-first Failure = refl
par-first _ = refl

par-last : (a : Contract) → par a Success ≡ a
par-last Failure = refl
par-last Success = refl
par-last _ = refl

-- so contracts side by side may be joined from the left
pub par_twice : (a b c : Contract) → par (par a b) c ≡ par a (par b c)
par_twice a b c = elim (proper a) [
  | inl e ↦ rw e refl
  | inr (inl e) ↦ rw (e, par-first b, par-first (par b c)) refl
  | inr (inr h) ↦ elim (proper b) [
    | inl e ↦ rw (e, par-failure a) refl
    | inr (inl e) ↦ rw (e, par-last a, par-first c) refl
    | inr (inr k) ↦ elim (proper c) [
      | inl e ↦ rw (e, par-failure (par a b), par-failure b, par-failure a) refl
      | inr (inl e) ↦ rw (e, par-last (par a b), par-last b) refl
      | inr (inr l) ↦ joined_par a b c h k l
    ]
  ]
]
