-- Choices of distinct alternatives, grouped to the left.
use Rattle.std.proofs.Common.{◌≡◌, true, false, not, List, [], ◌∷◌, ◌++◌, filter, fold, refl, sym, ◌∙◌, ap, subst, inl, inr, append-nil, append_assoc, if◌then◌else◌}
use Rattle.std.specs.List.{All}
use Rattle.std.proofs.lemmas.List.Elements.{All-nil, All-cons, All-head, All-tail, All-append, All-push, filter-append}
use Rattle.std.proofs.lemmas.List.Folds.{list_any-append}
use Rattle.std.proofs.lemmas.List.Sums.{fold-append}
use Rattle.std.proofs.lemmas.Map.Views.{any-filter_same}
use Rattle.poets_syntax.specs.Contract.{Contract, Failure, Plus}
use Rattle.poets_syntax.proofs.Replacing.{truth}
use Rattle.poets_calculus.specs.Alike.{alike}
use Rattle.poets_calculus.specs.Normal.{alternatives, distinct, choice, plus}
use Rattle.poets_calculus.proofs.AlikeTests.{alike_iff}
use Rattle.poets_calculus.proofs.Multisets.{Alike-trans}
use Rattle.poets_norm.specs.Choices.{distinct_choice, holds_alike, IsDistinctChoice}
use Rattle.poets_norm.proofs.Parts.{All-distinct}

-- a contract that is its own one alternative
abbrev pub IsOne : Contract → Type 0
IsOne Failure = ⊥
IsOne (Plus a b) = ⊥
IsOne _ = Unit {0}

not_failure : (c : Contract) → IsOne c → c ≡ Failure → ⊥
not_failure c h e = subst IsOne e h

pub alternatives-one : (c : Contract) → IsOne c → alternatives c ≡ c ∷ []
alternatives-one Failure h = absurd h
alternatives-one (Plus a b) h = absurd h
alternatives-one _ h = refl

each_is_one : (c : Contract) → All IsOne (alternatives c)
each_is_one Failure = All-nil IsOne
each_is_one (Plus a b) = All-append IsOne (alternatives a) (alternatives b) (each_is_one a) (each_is_one b)
each_is_one c = All-cons IsOne c [] tt (All-nil IsOne)

-- the distinct ones of a list with one contract more at its end
distinct-last : (xs : List Contract) (d : Contract) → distinct (xs ++ d ∷ []) ≡ (if holds_alike xs d then distinct xs else distinct xs ++ d ∷ [])
distinct-last [] d = refl
distinct-last (c ∷ xs) d =
    let rest = distinct-last xs d in
    let kept = filter-append (λ x. not (alike c x)) (distinct xs) (d ∷ []) in
    elim (truth (alike c d)) [
      | inl e ↦ elim (truth (holds_alike xs d)) [
        | inl k ↦ rw (rest, e, k) refl
        | inr k ↦ rw (rest, e, k) (ap (λ ys. c ∷ ys) (kept ∙ rw e (append-nil (filter (λ x. not (alike c x)) (distinct xs)))))
      ]
      | inr e ↦ elim (truth (holds_alike xs d)) [
        | inl k ↦ rw (rest, e, k) refl
        | inr k ↦ rw (rest, e, k) (ap (λ ys. c ∷ ys) (kept ∙ rw e refl))
      ]
    ]

-- they are the same contracts
holds_alike-filter : (c d : Contract) → alike c d ≡ false → (xs : List Contract) → holds_alike (filter (λ x. not (alike c x)) xs) d ≡ holds_alike xs d
holds_alike-filter c d h xs = any-filter_same (λ x. alike x d) (λ x. not (alike c x)) true (λ x k. elim (truth (alike c x)) [
  | inl e ↦ (let l : true ≡ false = sym ((alike_iff c d).1 (Alike-trans ((alike_iff c x).0 e) ((alike_iff x d).0 k))) ∙ h in absurd cc)
  | inr e ↦ ap not e
]) xs

holds_alike-distinct : (xs : List Contract) (d : Contract) → holds_alike (distinct xs) d ≡ holds_alike xs d
holds_alike-distinct [] d = refl
holds_alike-distinct (c ∷ xs) d = elim (truth (alike c d)) [
  | inl e ↦ rw e refl
  | inr e ↦ rw e (holds_alike-filter c d e (distinct xs) ∙ holds_alike-distinct xs d)
]

-- the alternatives of a choice
alternatives-fold : (c : Contract) (cs : List Contract) → All IsOne cs → alternatives (fold Plus c cs) ≡ alternatives c ++ cs
alternatives-fold c [] ones = sym (append-nil (alternatives c))
alternatives-fold c (d ∷ cs) ones =
    alternatives-fold (Plus c d) cs (All-tail IsOne d cs ones) ∙ rw (alternatives-one d (All-head IsOne d cs ones)) (append_assoc (alternatives c) (d ∷ []) cs)

alternatives-choice : (cs : List Contract) → All IsOne cs → alternatives (choice cs) ≡ cs
alternatives-choice [] ones = refl
alternatives-choice (c ∷ cs) ones =
    alternatives-fold c cs (All-tail IsOne c cs ones) ∙ ap (λ xs. xs ++ cs) (alternatives-one c (All-head IsOne c cs ones))

pub alternatives-distinct_choice : (c : Contract) → alternatives (distinct_choice c) ≡ distinct (alternatives c)
alternatives-distinct_choice c = alternatives-choice (distinct (alternatives c)) (All-distinct IsOne (alternatives c) (each_is_one c))

fold_not_failure : (c : Contract) (cs : List Contract) → (c ≡ Failure → ⊥) → fold Plus c cs ≡ Failure → ⊥
fold_not_failure c [] some e = some e
fold_not_failure c (d ∷ cs) some e = fold_not_failure (Plus c d) cs (λ k. cc) e

choice-last : (cs : List Contract) (d : Contract) → (choice cs ≡ Failure → ⊥) → choice (cs ++ d ∷ []) ≡ Plus (choice cs) d
choice-last [] d some = absurd (some refl)
choice-last (c ∷ cs) d some = fold-append Plus c cs (d ∷ [])

-- a choice of distinct alternatives by its shape
abbrev pub IsGrouped : Contract → Type 0
IsGrouped (Plus c d) = IsGrouped c × (c ≡ Failure → ⊥) × IsOne d × (holds_alike (alternatives c) d ≡ false)
IsGrouped _ = Unit {0}

IsGrouped-one : (c : Contract) → IsOne c → IsGrouped c
IsGrouped-one (Plus a b) h = absurd h
IsGrouped-one _ h = tt

IsGrouped-last : (cs : List Contract) (d : Contract) → All IsOne cs → IsOne d → holds_alike cs d ≡ false → IsGrouped (choice cs) → IsGrouped (choice (cs ++ d ∷ []))
IsGrouped-last [] d ones one new h = IsGrouped-one d one
IsGrouped-last (c ∷ cs) d ones one new h =
    let some = fold_not_failure c cs (not_failure c (All-head IsOne c cs ones)) in
    rw (choice-last (c ∷ cs) d some) (h, some, one, rw (alternatives-choice (c ∷ cs) ones) new)

IsGrouped-onto : (xs ys : List Contract) → All IsOne xs → All IsOne ys → IsGrouped (choice (distinct xs)) → IsGrouped (choice (distinct (xs ++ ys)))
IsGrouped-onto xs [] ones more h = subst (λ zs. IsGrouped (choice (distinct zs))) (sym (append-nil xs)) h
IsGrouped-onto xs (d ∷ ys) ones more h =
    let here = All-head IsOne d ys more in
    let next : IsGrouped (choice (distinct (xs ++ d ∷ []))) = rw (distinct-last xs d) (elim (truth (holds_alike xs d)) [
      | inl e ↦ rw e h
      | inr e ↦ rw e (IsGrouped-last (distinct xs) d (All-distinct IsOne xs ones) here (holds_alike-distinct xs d ∙ e) h)
    ]) in
    subst (λ zs. IsGrouped (choice (distinct zs))) (append_assoc xs (d ∷ []) ys)
    (IsGrouped-onto (xs ++ d ∷ []) ys (All-push IsOne xs d ones here) (All-tail IsOne d ys more) next)

pub IsGrouped-distinct_choice : (c : Contract) → IsGrouped (distinct_choice c)
IsGrouped-distinct_choice c = IsGrouped-onto [] (alternatives c) (All-nil IsOne) (each_is_one c) tt

-- and the other way
pub distinct_choice-grouped : (c : Contract) → IsGrouped c → IsDistinctChoice c
distinct_choice-grouped (Plus c d) h =
    let front = distinct_choice-grouped c h.0 in
    rw (alternatives-one d h.2, distinct-last (alternatives c) d, h.3)
    (choice-last (distinct (alternatives c)) d (λ e. h.1 (sym front ∙ e)) ∙ ap (λ x. Plus x d) front)
distinct_choice-grouped _ h = refl

grouped : (c : Contract) → IsDistinctChoice c → IsGrouped c
grouped c h = subst IsGrouped h (IsGrouped-distinct_choice c)

pub distinct_choice-twice : (c : Contract) → IsDistinctChoice (distinct_choice c)
distinct_choice-twice c = distinct_choice-grouped (distinct_choice c) (IsGrouped-distinct_choice c)

-- the choice of two of them
no_first : (xs ys : List Contract) → All IsOne (xs ++ ys) → choice (distinct (xs ++ ys)) ≡ Failure → xs ≡ []
no_first [] ys ones e = refl
no_first (x ∷ xs) ys ones e =
    absurd (fold_not_failure x (filter (λ d. not (alike x d)) (distinct (xs ++ ys))) (not_failure x (All-head IsOne x (xs ++ ys) ones)) e)

plus_not_failure : (a b : Contract) → IsDistinctChoice a → (a ≡ Failure → ⊥) → plus a b ≡ Failure → ⊥
plus_not_failure a b h some e =
    some (sym h ∙ ap (λ xs. choice (distinct xs)) (no_first (alternatives a) (alternatives b) (each_is_one (Plus a b)) e))

plus-failure : (a : Contract) → IsDistinctChoice a → plus a Failure ≡ a
plus-failure a h = ap (λ xs. choice (distinct xs)) (append-nil (alternatives a)) ∙ h

plus-last : (a c d : Contract) → IsDistinctChoice a → (a ≡ Failure → ⊥) → IsOne d → holds_alike (alternatives c) d ≡ false →
    plus a (Plus c d) ≡ (if holds_alike (alternatives a) d then plus a c else Plus (plus a c) d)
plus-last a c d h some one new =
    let all : alternatives a ++ (alternatives c ++ alternatives d) ≡ (alternatives a ++ alternatives c) ++ d ∷ [] =
    ap (λ ys. alternatives a ++ (alternatives c ++ ys)) (alternatives-one d one) ∙ sym (append_assoc (alternatives a) (alternatives c) (d ∷ [])) in
    let found = list_any-append (λ x. alike x d) (alternatives a) (alternatives c) in
    rw (all, distinct-last (alternatives a ++ alternatives c) d, found, new)
    (elim (truth (holds_alike (alternatives a) d)) [
      | inl e ↦ rw e refl
      | inr e ↦ rw e (choice-last (distinct (alternatives a ++ alternatives c)) d (plus_not_failure a c h some))
    ])

pub front_of : (c d : Contract) → IsDistinctChoice (Plus c d) → IsDistinctChoice c
front_of c d h = distinct_choice-grouped c (grouped (Plus c d) h).0

pub plus-front : (a c d : Contract) → IsDistinctChoice a → (a ≡ Failure → ⊥) → IsDistinctChoice (Plus c d) →
    (if holds_alike (alternatives a) d then plus a c else Plus (plus a c) d) ≡ plus a (Plus c d)
plus-front a c d h some k = let parts = grouped (Plus c d) k in sym (plus-last a c d h some parts.2 parts.3)

pub plus-one : (a d : Contract) → IsDistinctChoice a → (a ≡ Failure → ⊥) → IsOne d → (if holds_alike (alternatives a) d then a else Plus a d) ≡ plus a d
plus-one a d h some one =
    subst (λ x. (if holds_alike (alternatives a) d then x else Plus x d) ≡ plus a d) (plus-failure a h) (sym (plus-last a Failure d h some one refl))

-- what is left out before, is left out after
distinct-twice : (c : Contract) → distinct (distinct (alternatives c)) ≡ distinct (alternatives c)
distinct-twice c =
    ap distinct (sym (alternatives-distinct_choice c)) ∙ sym (alternatives-distinct_choice (distinct_choice c)) ∙ ap alternatives (distinct_choice-twice c)
    ∙ alternatives-distinct_choice c

distinct-onto : (xs xs' ys : List Contract) → distinct xs ≡ distinct xs' → distinct (xs ++ ys) ≡ distinct (xs' ++ ys)
distinct-onto xs xs' [] e = ap distinct (append-nil xs) ∙ e ∙ sym (ap distinct (append-nil xs'))
distinct-onto xs xs' (d ∷ ys) e =
    let known : holds_alike xs d ≡ holds_alike xs' d = sym (holds_alike-distinct xs d) ∙ ap (λ zs. holds_alike zs d) e ∙ holds_alike-distinct xs' d in
    let next : distinct (xs ++ d ∷ []) ≡ distinct (xs' ++ d ∷ []) = rw (distinct-last xs d, distinct-last xs' d, e, known) refl in
    ap distinct (sym (append_assoc xs (d ∷ []) ys)) ∙ distinct-onto (xs ++ d ∷ []) (xs' ++ d ∷ []) ys next ∙ ap distinct (append_assoc xs' (d ∷ []) ys)

distinct-behind : (xs ys ys' : List Contract) → distinct ys ≡ distinct ys' → distinct (xs ++ ys) ≡ distinct (xs ++ ys')
distinct-behind [] ys ys' e = e
distinct-behind (c ∷ xs) ys ys' e = ap (λ zs. c ∷ filter (λ d. not (alike c d)) zs) (distinct-behind xs ys ys' e)

pub plus-distinct : (a b : Contract) → plus (distinct_choice a) (distinct_choice b) ≡ plus a b
plus-distinct a b =
    rw (alternatives-distinct_choice a, alternatives-distinct_choice b)
    (ap choice (distinct-behind (distinct (alternatives a)) (distinct (alternatives b)) (alternatives b) (distinct-twice b)
    ∙ distinct-onto (distinct (alternatives a)) (alternatives a) (alternatives b) (distinct-twice a)))
