-- Declared names as a list of them says.
use Rattle.std.proofs.Common.{◌≡◌, ℕ, zero, suc, ◌<◌, Bool, true, false, List, [], ◌∷◌, length, map, get_or, Option, Some, None, refl, sym, ap, ◌∙◌, arith, Less}
use Rattle.std.specs.Prelude.{Contains, if◌then◌else◌}
use Rattle.std.specs.List.{AllByRecursion}
use Rattle.std.specs.List.Sorted.{IsStrictlySortedBy}
use Rattle.std.specs.Ordering.{eq_by_cmp, nat_cmp}
use Rattle.std.proofs.lemmas.Bool.Decides.{nat_tests}
use Rattle.std.proofs.lemmas.Map.Keys.{sorted_from_strictly_increasing}
use Rattle.std.proofs.lemmas.Map.Views.{Contains-from_lookup}
use Rattle.poets_value.specs.declared.value.Name.{Name}
use Rattle.poets_value.specs.declared.value.Ty.{Ty}
use Rattle.poets_value.specs.Names.{name_cmp}
use Rattle.poets_expr.specs.Env.{Declared, same_name}
use Rattle.poets_expr.proofs.SameTrees.{name_one}
use Rattle.poets_types.proofs.Tables.{same_is_eq}
use Rattle.poets_json.specs.Plain.{AreDeclaredNames}
use Rattle.poets_import.specs.Reading.{declared_in}
use Rattle.poets_import.proofs.Decls.{looked_up}

-- ---- their order

all_above :
    (x : Name) (ds : List (Name × Ty)) → AllByRecursion (λ n. nat_cmp x.id n ≡ Less) (map (λ d. d.0.id) ds) →
    AllByRecursion (λ y. name_cmp x y ≡ Less) (map (λ d. d.0) ds)
all_above x [] h = tt
all_above x (d ∷ ds) h = (h.0, all_above x ds h.1)

sorted_names :
    (ds : List (Name × Ty)) → IsStrictlySortedBy nat_cmp (map (λ d. d.0.id) ds) →
    IsStrictlySortedBy name_cmp (map (λ d. d.0) ds)
unfolding IsStrictlySortedBy
sorted_names [] h = tt
sorted_names (d ∷ ds) h = (all_above d.0 ds h.0, sorted_names ds h.1)

-- ---- what the list says of a name

same_names : (x y : Name) → eq_by_cmp name_cmp x y ≡ true → x ≡ y
same_names x y e = sym (name_one y x (same_is_eq y x ∙ e))

listed : (ds : List (Name × Ty)) (x : Name) (ty : Ty) → declared_in ds x ≡ Some ty → Contains ds (x, ty)
listed ds x ty e = Contains-from_lookup same_names x ty ds (looked_up ds x ∙ e)

itself : (x : Name) → same_name x x ≡ true
itself x = grind (arith, nat_tests)

first_says : (b : Bool) (ty : Ty) (o : Option Ty) → (if b then Some ty else o) ≡ None → (b ≡ false) × (o ≡ None)
first_says true ty o e = absurd cc
first_says false ty o e = (refl, e)

of_pair : (d : Name × Ty) (x : Name) (ty : Ty) → d ≡ (x, ty) → same_name d.0 x ≡ true
of_pair d x ty e = ap (λ (p : Name × Ty). same_name p.0 x) e ∙ itself x

not_both : (b : Bool) → b ≡ true → b ≡ false → ⊥
not_both b e f = cc

-- a name that the list says nothing of is not in it
not_listed :
    (ds : List (Name × Ty)) (place : ℕ) (x : Name) (ty : Ty) → place < length ds → get_or ds place (x, ty) ≡ (x, ty) →
    declared_in ds x ≡ None → ⊥
not_listed [] place x ty within e none = absurd (omega (arith, within))
not_listed (d ∷ ds) zero x ty within e none =
    not_both (same_name d.0 x) (of_pair d x ty e) (first_says (same_name d.0 x) d.1 (declared_in ds x) none).0
not_listed (d ∷ ds) (suc place) x ty within e none =
    not_listed ds place x ty (omega (arith, within)) e (first_says (same_name d.0 x) d.1 (declared_in ds x) none).1

-- ---- the declared names

module _ (declared : Declared) (all : List (Name × Ty)) (are : AreDeclaredNames declared all) where
  pub in_order : IsStrictlySortedBy name_cmp (map (λ d. d.0) all)
  in_order = sorted_names all (sorted_from_strictly_increasing (map (λ d. d.0.id) all) are.rise)

  nothing_said : (x : Name) (o : Option Ty) → declared x ≡ o → declared_in all x ≡ None → o ≡ None
  nothing_said x None e none = refl
  nothing_said x (Some ty) e none =
      let here = (are.each x ty).0 e in
      absurd (not_listed all here.0 x ty here.1 here.2 none)

  says_same : (x : Name) (o : Option Ty) → declared_in all x ≡ o → declared x ≡ o
  says_same x (Some ty) e = (are.each x ty).1 (listed all x ty e)
  says_same x None e = nothing_said x (declared x) refl e

  pub as_listed : (x : Name) → declared x ≡ declared_in all x
  as_listed x = says_same x (declared_in all x) refl
