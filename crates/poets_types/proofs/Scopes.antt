-- Types of names in scopes.
use Rattle.std.proofs.Common.{◌≡◌, ℕ, ◌+◌, ◌<◌, Bool, true, false, List, [], ◌∷◌, ◌++◌, length, take, get_or, map, Option, Some, None, refl, sym, ap, ◌∙◌}
use Rattle.std.specs.Prelude.{◌||◌, is_some, if◌then◌else◌}
use Rattle.std.specs.Cmp.{IsEquivalence}
use Rattle.std.proofs.lemmas.Cmp.{nat_eq_equiv, on_equiv}
use Rattle.std.proofs.lemmas.List.{append-nil, map-append, take_more}
use Rattle.std.specs.Option.{option_or}
use Rattle.poets_value.specs.declared.value.Name.{Name}
use Rattle.poets_value.specs.declared.value.Ty.{Ty}
use Rattle.poets_expr.specs.Env.{Declared, same_name}
use Rattle.poets_syntax.specs.declared.term.Param.{Param}
use Rattle.poets_syntax.specs.TypeOf.{Scope, type_in}
use Rattle.poets_syntax.specs.Typed.{is_among, scope_of}

pub same_name_laws : IsEquivalence same_name
same_name_laws = on_equiv (λ n. n.id) nat_eq_equiv

by_first : (b : Bool) (t : Ty) (o p : Option Ty) → (if b then Some t else option_or o p) ≡ option_or (if b then Some t else o) p
by_first true t o p = refl
by_first false t o p = refl

-- the inner names first
pub type_in_append : (declared : Declared) (inner outer : Scope) (x : Name) →
    type_in declared (inner ++ outer) x ≡ option_or (type_in (λ _. None) inner x) (type_in declared outer x)
type_in_append declared [] outer x = refl
type_in_append declared (p ∷ inner) outer x =
    rw (type_in_append declared inner outer x) (by_first (same_name p.0 x) p.1 (type_in (λ _. None) inner x) (type_in declared outer x))

-- the names alone
pub type_in_alone : (declared : Declared) (scope : Scope) (x : Name) → type_in declared scope x ≡ option_or (type_in (λ _. None) scope x) (declared x)
type_in_alone declared scope x = ap (λ (s : Scope). type_in declared s x) (sym (append-nil scope)) ∙ type_in_append declared scope [] x

-- one more name
pub type_in_more : (names : List Param) (i : ℕ) (d : Param) (x : Name) → i < length names →
    type_in (λ _. None) (scope_of (take (i + 1) names)) x
    ≡ option_or (type_in (λ _. None) (scope_of (take i names)) x) (if same_name (get_or names i d).name x then Some (get_or names i d).ty else None)
type_in_more names i d x l =
    ap (λ (ps : List Param). type_in (λ _. None) (scope_of ps) x) (take_more names i d l)
    ∙ ap (λ (s : Scope). type_in (λ _. None) s x) (map-append (λ (p : Param). (p.name, p.ty)) (take i names) (get_or names i d ∷ []))
    ∙ type_in_append (λ _. None) (scope_of (take i names)) (scope_of (get_or names i d ∷ [])) x

-- a name has a type where it stands
pub is_some-type_in : (names : List Param) (x : Name) → is_some (type_in (λ _. None) (scope_of names) x) ≡ is_among (map (λ p. p.name) names) x
is_some-type_in [] x = refl
is_some-type_in (p ∷ names) x = by_test (same_name p.name x) (same_name x p.name) p.ty _ _ (same_name_laws.symm p.name x) (is_some-type_in names x)
  where
    by_test : (b c : Bool) (t : Ty) (o : Option Ty) (a : Bool) → b ≡ c → is_some o ≡ a → is_some (if b then Some t else o) ≡ (c || a)
    by_test true true t o a s e = refl
    by_test true false t o a s e = absurd cc
    by_test false true t o a s e = absurd cc
    by_test false false t o a s e = e
