-- Adding each name unless it is there gives each name once.
use Rattle.std.proofs.Common.{◌≡◌, Bool, true, false, not, ◌&&◌, ◌||◌, cond, List, [], ◌∷◌, ◌++◌, filter, refl, sym, ◌∙◌, ap, append_assoc, append-nil}
use Rattle.std.specs.List.{list_any}
use Rattle.std.proofs.lemmas.List.Folds.{list_any-append}
use Rattle.poets_value.specs.declared.value.Name.{Name}
use Rattle.poets_expr.specs.Expression.{Expression}
use Rattle.poets_expr.specs.Env.{same_name}
use Rattle.poets_expr.specs.Free.{names_of, distinct, free_names_of, with_names}
use Rattle.poets_expr.proofs.SameTrees.{name_one}

filter-filter : (p q r : Name → Bool) → ((y : Name) → r y ≡ (q y && p y)) → (ys : List Name) → filter p (filter q ys) ≡ filter r ys
filter-filter p q r h [] = refl
filter-filter p q r h (y ∷ ys) =
    let rest = filter-filter p q r h ys in
    rw (h y) (elim (q y) as (λ b. filter p (cond b (y ∷ filter q ys) (filter q ys)) ≡ cond (b && p y) (y ∷ filter r ys) (filter r ys)) [
      | true ↦ ap (λ zs. cond (p y) (y ∷ zs) zs) rest
      | false ↦ rest
    ])

filter-true : (ys : List Name) → filter (λ y. true) ys ≡ ys
filter-true [] = refl
filter-true (y ∷ ys) = ap (λ zs. y ∷ zs) (filter-true ys)

-- the name is not among the names
is_new : List Name → Name → Bool
is_new names y = not (list_any (λ z. same_name z y) names)

-- what is new is other than a name that is there
is_new-there : (names : List Name) (x : Name) → list_any (λ z. same_name z x) names ≡ true → (y : Name) →
    is_new names y ≡ (not (same_name x y) && is_new names y)
unfolding is_new
is_new-there names x h y =
    elim (same_name x y) as (λ b. same_name x y ≡ b → is_new names y ≡ (not b && is_new names y)) [
      | true ↦ (λ e. let k : list_any (λ z. same_name z y) names ≡ true = ap (λ v. list_any (λ z. same_name z v) names) (sym (name_one x y e)) ∙ h in rw k refl)
      | false ↦ (λ e. refl)
    ] refl

-- what is new to one name more
is_new-append : (names : List Name) (x y : Name) → is_new (names ++ x ∷ []) y ≡ (not (same_name x y) && is_new names y)
unfolding is_new
is_new-append names x y =
    rw (list_any-append (λ z. same_name z y) names (x ∷ []))
    (elim (list_any (λ z. same_name z y) names) as (λ a. not (a || (same_name x y || false)) ≡ (not (same_name x y) && not a)) [
      | true ↦ elim (same_name x y) as (λ b. false ≡ (not b && false)) [ true ↦ refl | false ↦ refl ]
      | false ↦ elim (same_name x y) as (λ b. not (b || false) ≡ (not b && true)) [ true ↦ refl | false ↦ refl ]
    ])

with_names-distinct : (more names : List Name) → with_names names more ≡ names ++ filter (is_new names) (distinct more)
unfolding is_new
with_names-distinct [] names = sym (append-nil names)
with_names-distinct (x ∷ more) names =
    elim (list_any (λ z. same_name z x) names) as
    (λ b. list_any (λ z. same_name z x) names ≡ b → with_names (cond b names (names ++ x ∷ [])) more
    ≡ names ++ cond (not b) (x ∷ filter (is_new names) (filter (λ y. not (same_name x y)) (distinct more))) (filter (is_new names) (filter (λ y. not (same_name x y)) (distinct more)))) [
      | true ↦ (λ h. with_names-distinct more names
          ∙ ap (λ zs. names ++ zs) (sym (filter-filter (is_new names) (λ y. not (same_name x y)) (is_new names) (is_new-there names x h) (distinct more))))
      | false ↦ (λ h. with_names-distinct more (names ++ x ∷ [])
          ∙ append_assoc names (x ∷ []) (filter (is_new (names ++ x ∷ [])) (distinct more))
          ∙ ap (λ zs. names ++ x ∷ zs) (sym (filter-filter (is_new names) (λ y. not (same_name x y)) (is_new (names ++ x ∷ [])) (is_new-append names x) (distinct more))))
    ] refl

pub with_names_free : (e : Expression) → with_names [] (names_of e) ≡ free_names_of e
unfolding is_new
with_names_free e = with_names-distinct (names_of e) [] ∙ filter-true (distinct (names_of e))
