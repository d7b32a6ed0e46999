-- New names, one by one.
use Rattle.std.proofs.Common.{◌≡◌, ℕ, ◌+◌, ◌<◌, Bool, true, false, List, [], ◌∷◌, length, take, drop, get_or, reverse, map, None, refl, ap, ◌∙◌, arith}
use Rattle.std.specs.Prelude.{◌||◌, is_some, if◌then◌else◌}
use Rattle.std.specs.List.{list_any}
use Rattle.std.proofs.lemmas.List.{take_more, drop_more, take-map, length-map, reverse-append}
use Rattle.std.proofs.Math.ListN.{get_or-map}
use Rattle.std.proofs.lemmas.List.Folds.{list_any-append}
use Rattle.poets_value.specs.declared.value.Name.{Name}
use Rattle.poets_expr.specs.Env.{same_name}
use Rattle.poets_syntax.specs.declared.term.Param.{Param}
use Rattle.poets_syntax.specs.Plain.{Twice}
use Rattle.poets_syntax.specs.TypeOf.{Fails, type_in}
use Rattle.poets_syntax.specs.Typed.{is_among, check_new, scope_of}
use Rattle.poets_types.proofs.Scopes.{is_some-type_in}

list_any-reverse : {A : Type 0} (p : A → Bool) (xs : List A) → list_any p (reverse xs) ≡ list_any p xs
list_any-reverse p [] = refl
list_any-reverse p (x ∷ xs) =
    ap (list_any p) (reverse-append (x ∷ []) xs) ∙ list_any-append p (reverse xs) (x ∷ []) ∙ turned (p x) (list_any p (reverse xs)) (list_any p xs) (list_any-reverse p xs)
  where
    turned : (a b c : Bool) → b ≡ c → (b || (a || false)) ≡ (a || c)
    turned true true c e = refl
    turned true false c e = refl
    turned false true c e = e
    turned false false c e = e

-- one more name
pub check_new_more : (used : Name → Bool) (names : List Name) (i : ℕ) (d : Name) → i < length names →
    check_new used (reverse (take i names)) (drop i names)
    ≡ (if used (get_or names i d) || is_among (take i names) (get_or names i d) then Fails (Twice (get_or names i d)) else check_new used (reverse (take (i + 1) names)) (drop (i + 1) names))
check_new_more used names i d l =
    rw (drop_more names i d l, take_more names i d l, reverse-append (take i names) (get_or names i d ∷ []), list_any-reverse (same_name (get_or names i d)) (take i names)) refl

-- one more parameter
pub new_param_more : (used : Name → Bool) (params : List Param) (i : ℕ) (d : Param) → i < length params →
    check_new used (reverse (take i (map (λ p. p.name) params))) (drop i (map (λ p. p.name) params))
    ≡ (if used (get_or params i d).name || is_some (type_in (λ _. None) (scope_of (take i params)) (get_or params i d).name) then Fails (Twice (get_or params i d).name)
    else check_new used (reverse (take (i + 1) (map (λ p. p.name) params))) (drop (i + 1) (map (λ p. p.name) params)))
new_param_more used params i d l =
    let within : i < length (map (λ (p : Param). p.name) params) = omega (arith, length-map params (λ (p : Param). p.name)) in
    let more = check_new_more used (map (λ p. p.name) params) i d.name within in
    rw (is_some-type_in (take i params) (get_or params i d).name, ← take-map (λ (p : Param). p.name) i params) (rw (get_or-map (λ (p : Param). p.name) params i d) at more)
