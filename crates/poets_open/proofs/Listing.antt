-- Steps listed one by one, each once.
use Rattle.std.proofs.Common.{◌≡◌, true, false, not, List, [], ◌∷◌, ◌++◌, filter, fold, refl, sym, ◌∙◌, ap, subst, inl, inr, append-nil, append_assoc, if◌then◌else◌}
use Rattle.std.proofs.lemmas.List.Elements.{filter-append}
use Rattle.std.proofs.lemmas.Map.Views.{any-filter_same}
use Rattle.poets_expr.specs.Same.{same}
use Rattle.poets_expr.proofs.SameTrees.{both_true, same_one}
use Rattle.poets_syntax.specs.Same.{same_binders}
use Rattle.poets_syntax.proofs.Replacing.{truth}
use Rattle.poets_syntax.proofs.SameContracts.{binders_one}
use Rattle.poets_open.specs.Next.{Step, same_step, each_once}
use Rattle.poets_open.specs.code.Opened.{is_listed, added, added_all}

-- the test is true of equal steps alone
pub step_one : (s t : Step) → same_step s t ≡ true → s ≡ t
step_one s t e =
    let h = both_true (same_binders s.binders t.binders) (same s.when t.when) e in
    let b = binders_one s.binders t.binders h.0 in
    let p = same_one s.when t.when h.1 in
    λ i. record { binders = b i; when = p i }

-- the steps with one more at the end
once-last : (xs : List Step) (t : Step) → each_once (xs ++ t ∷ []) ≡ (if is_listed xs t then each_once xs else each_once xs ++ t ∷ [])
once-last [] t = refl
once-last (s ∷ xs) t =
    let rest = once-last xs t in
    let kept = filter-append (λ x. not (same_step s x)) (each_once xs) (t ∷ []) in
    elim (truth (same_step s t)) [
      | inl e ↦ elim (truth (is_listed xs t)) [
        | inl k ↦ rw (rest, e, k) refl
        | inr k ↦ rw (rest, e, k) (ap (λ ys. s ∷ ys) (kept ∙ rw e (append-nil (filter (λ x. not (same_step s x)) (each_once xs)))))
      ]
      | inr e ↦ elim (truth (is_listed xs t)) [
        | inl k ↦ rw (rest, e, k) refl
        | inr k ↦ rw (rest, e, k) (ap (λ ys. s ∷ ys) (kept ∙ rw e refl))
      ]
    ]

-- they are the same steps
listed-filter : (s t : Step) → same_step s t ≡ false → (xs : List Step) → is_listed (filter (λ x. not (same_step s x)) xs) t ≡ is_listed xs t
listed-filter s t h xs = any-filter_same (λ x. same_step x t) (λ x. not (same_step s x)) true (λ x k. elim (truth (same_step s x)) [
  | inl e ↦ (let l : true ≡ false = sym k ∙ subst (λ y. same_step y t ≡ false) (step_one s x e) h in absurd cc)
  | inr e ↦ ap not e
]) xs

listed-once : (xs : List Step) (t : Step) → is_listed (each_once xs) t ≡ is_listed xs t
listed-once [] t = refl
listed-once (s ∷ xs) t = elim (truth (same_step s t)) [
  | inl e ↦ rw e refl
  | inr e ↦ rw e (listed-filter s t e (each_once xs) ∙ listed-once xs t)
]

added-once : (xs : List Step) (t : Step) → added (each_once xs) t ≡ each_once (xs ++ t ∷ [])
added-once xs t = rw (listed-once xs t, once-last xs t) refl

added_all-once : (xs ys : List Step) → added_all (each_once xs) ys ≡ each_once (xs ++ ys)
added_all-once xs [] = ap each_once (sym (append-nil xs))
added_all-once xs (t ∷ ys) =
    ap (λ zs. fold added zs ys) (added-once xs t) ∙ added_all-once (xs ++ t ∷ []) ys ∙ ap each_once (append_assoc xs (t ∷ []) ys)

-- all of them, each once
pub listed_all : (ys : List Step) → added_all [] ys ≡ each_once ys
listed_all ys = added_all-once [] ys
