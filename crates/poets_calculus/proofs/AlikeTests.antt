-- The test for alike contracts is right.
use Rattle.std.proofs.Common.{◌≡◌, ◌↔◌, ◌≤◌, Bool, true, ◌&&◌, IsTrue, List, [], ◌∷◌, ◌++◌, length, refl, sym, ap, subst, arith, ◌⊎◌, inl, inr, length-append}
use Rattle.std.specs.List.{list_any}
use Rattle.poets_value.specs.declared.value.Name.{Name}
use Rattle.poets_expr.specs.Expression.{Expression}
use Rattle.poets_expr.specs.Env.{same_name}
use Rattle.poets_expr.specs.Same.{same}
use Rattle.poets_expr.proofs.SameTrees.{both_true, name_one, same_one, same_itself}
use Rattle.poets_syntax.specs.declared.term.Binders.{Binders}
use Rattle.poets_syntax.specs.Contract.{Contract}
use Rattle.poets_syntax.specs.Contract as C
use Rattle.poets_syntax.specs.Same.{same_binders, same_args}
use Rattle.poets_syntax.proofs.Replacing.{truth}
use Rattle.poets_syntax.proofs.SameContracts.{binders_one, args_one, name_itself, binders_itself, args_itself}
use Rattle.poets_meaning.specs.Between.{Between}
use Rattle.poets_meaning.proofs.Lists.{Between-none, Between-swap, Between-all, Between-length}
use Rattle.poets_meaning.proofs.Nullability.{or_first, or_second, and_both}
use Rattle.poets_calculus.specs.Alike.{Alike, AreAlike, parts, tests, pass, parts_pass, alike, without_first, is_success, is_failure, is_transmit, is_plus, is_seq, is_app}
use Rattle.poets_calculus.proofs.Multisets.{AreAlike-one, AreAlike-rest}

-- ---- alike contracts have alike parts

AreAlike-length : {cs ds : List Contract} → AreAlike cs ds → length cs ≡ length ds
AreAlike-length AreAlike.None = refl
AreAlike-length (AreAlike.One h i k) = omega (arith, Between-length i, AreAlike-length k)

some_parts : (c : Contract) → 1 ≤ length (parts c)
some_parts (C.Par a b) = omega (arith, some_parts a, length-append (parts a) (parts b))
some_parts C.Success = omega arith
some_parts C.Failure = omega arith
some_parts (C.Transmit b p c) = omega arith
some_parts (C.Plus a b) = omega arith
some_parts (C.Seq a b) = omega arith
some_parts (C.App f args) = omega arith

-- a contract that is its own one part
abbrev pub IsPart : Contract → Type 0
IsPart (C.Par a b) = ⊥
IsPart _ = Unit {0}

pub parts-one : (c : Contract) → IsPart c → parts c ≡ c ∷ []
parts-one (C.Par a b) h = absurd h
parts-one C.Success h = refl
parts-one C.Failure h = refl
parts-one (C.Transmit b p c) h = refl
parts-one (C.Plus a b) h = refl
parts-one (C.Seq a b) h = refl
parts-one (C.App f args) h = refl

pub AreAlike-parts : {c d : Contract} → Alike c d → AreAlike (parts c) (parts d)
AreAlike-parts Alike.Success = AreAlike-one Alike.Success
AreAlike-parts Alike.Failure = AreAlike-one Alike.Failure
AreAlike-parts (Alike.Transmit h) = AreAlike-one (Alike.Transmit h)
AreAlike-parts (Alike.Plus h k) = AreAlike-one (Alike.Plus h k)
AreAlike-parts (Alike.Par h) = h
AreAlike-parts (Alike.Seq h k) = AreAlike-one (Alike.Seq h k)
AreAlike-parts Alike.App = AreAlike-one Alike.App

one_alike : {c d : Contract} → AreAlike (c ∷ []) (d ∷ []) → Alike c d
one_alike {c} {d} (AreAlike.One {d = e} h i AreAlike.None) =
    let same : d ∷ [] ≡ e ∷ [] = sym (Between-none (Between-swap i) refl) in
    let k : e ≡ d = cc in
    subst (λ x. Alike c x) k h

-- and one that is not
abbrev IsPar : Contract → Type 0
IsPar (C.Par a b) = Unit {0}
IsPar _ = ⊥

par_or_part : (c : Contract) → IsPar c ⊎ IsPart c
par_or_part (C.Par a b) = inl tt
par_or_part C.Success = inr tt
par_or_part C.Failure = inr tt
par_or_part (C.Transmit b p c) = inr tt
par_or_part (C.Plus a b) = inr tt
par_or_part (C.Seq a b) = inr tt
par_or_part (C.App f args) = inr tt

many_parts : (c : Contract) → IsPar c → 2 ≤ length (parts c)
many_parts (C.Par a b) h = omega (arith, some_parts a, some_parts b, length-append (parts a) (parts b))
many_parts _ h = absurd h

par_alike : (c d : Contract) → IsPar c → IsPar d → AreAlike (parts c) (parts d) → Alike c d
par_alike (C.Par a b) (C.Par c d) h k w = Alike.Par w
par_alike (C.Par a b) _ h k w = absurd k
par_alike _ _ h k w = absurd h

-- contracts with alike parts are alike
pub parts-alike : (c d : Contract) → AreAlike (parts c) (parts d) → Alike c d
parts-alike c d w =
    let l = AreAlike-length w in
    elim (par_or_part c) [
      | inl h ↦ elim (par_or_part d) [
        | inl k ↦ par_alike c d h k w
        | inr k ↦ absurd (omega (arith, l, many_parts c h, ap length (parts-one d k)))
      ]
      | inr h ↦ elim (par_or_part d) [
        | inl k ↦ absurd (omega (arith, l, many_parts d k, ap length (parts-one c h)))
        | inr k ↦ one_alike (rw (parts-one c h, parts-one d k) at w)
      ]
    ]

-- ---- the test

-- each test tells what is alike to its contract
abbrev Tells : (Contract → Bool) → Contract → Type 0
Tells test c = (d : Contract) → IsTrue (test d) ↔ Alike c d

data Tell : List (Contract → Bool) → List Contract → Type 0 where
  None : Tell [] []
  One :
      {test : Contract → Bool} {c : Contract} {others : List (Contract → Bool)} {cs : List Contract} →
      Tells test c → Tell others cs → Tell (test ∷ others) (c ∷ cs)

Tell-append : {ts us : List (Contract → Bool)} {cs ds : List Contract} → Tell us ds → Tell ts cs → Tell (ts ++ us) (cs ++ ds)
Tell-append k Tell.None = k
Tell-append k (Tell.One t h) = Tell.One t (Tell-append k h)

first_taken : (test : Contract → Bool) (cs : List Contract) → list_any test cs ≡ true →
    (d : Contract) × (test d ≡ true) × Between (d ∷ []) (without_first test cs) cs
first_taken test [] e = absurd cc
first_taken test (c ∷ cs) e = elim (truth (test c)) [
  | inl k ↦ (c, k, rw k (Between.First (Between-all cs)))
  | inr k ↦ (let f = first_taken test cs (rw k at e) in (f.0, f.1, rw k (Between.Second f.2)))
]

any_of : (test : Contract → Bool) (d : Contract) → test d ≡ true → {one rest cs : List Contract} → Between one rest cs → one ≡ d ∷ [] → list_any test cs ≡ true
any_of test d t Between.Empty e = absurd cc
any_of test d t (Between.First {x = x} {s = s} i) e = let k : d ≡ x = cc in or_first (test x) (list_any test s) (subst (λ z. test z ≡ true) k t)
any_of test d t (Between.Second {x = x} {s = s} i) e = or_second (test x) (list_any test s) (any_of test d t i e)

passed : {ts : List (Contract → Bool)} {cs : List Contract} → Tell ts cs → (ds : List Contract) → pass ts ds ≡ true → AreAlike cs ds
passed Tell.None [] e = AreAlike.None
passed Tell.None (d ∷ ds) e = absurd cc
passed (Tell.One {test = test} {others = others} t k) ds e =
    let p = both_true (list_any test ds) (pass others (without_first test ds)) e in
    let f = first_taken test ds p.0 in
    AreAlike.One ((t f.0).0 f.1) f.2 (passed k (without_first test ds) p.1)

passing : {ts : List (Contract → Bool)} {cs : List Contract} → Tell ts cs → {ds : List Contract} → AreAlike cs ds → pass ts ds ≡ true
passing Tell.None AreAlike.None = refl
passing (Tell.One {test = test} {others = others} t k) (AreAlike.One {d = d} {ds = ds} h i j) =
    let any = any_of test d ((t d).1 h) i refl in
    let f = first_taken test ds any in
    and_both (list_any test ds) (pass others (without_first test ds)) any
    (passing k (AreAlike-rest ((t f.0).0 f.1) f.2 (AreAlike.One h i j)))

-- each form's test, where that of what stands below it is right
success_tells : Tells is_success C.Success
success_tells C.Success = (λ e. Alike.Success, λ h. refl)
success_tells _ = (λ e. absurd cc, λ h. elim h [ ])

failure_tells : Tells is_failure C.Failure
failure_tells C.Failure = (λ e. Alike.Failure, λ h. refl)
failure_tells _ = (λ e. absurd cc, λ h. elim h [ ])

transmit_in : (b : Binders) (p : Expression) (below : Contract → Bool) (c : Contract) → Tells below c →
    (d : Contract) → is_transmit b p below d ≡ true → Alike (C.Transmit b p c) d
transmit_in b p below c t (C.Transmit e q d) h =
    let k = both_true (same_binders b e && same p q) (below d) h in
    let l = both_true (same_binders b e) (same p q) k.0 in
    let binders = binders_one b e l.0 in
    let predicate = same_one p q l.1 in
    subst (λ x. Alike (C.Transmit b p c) (C.Transmit x q d)) binders
    (subst (λ y. Alike (C.Transmit b p c) (C.Transmit b y d)) predicate (Alike.Transmit ((t d).0 k.1)))
transmit_in b p below c t _ h = absurd cc

transmit_out : (b : Binders) (p : Expression) (below : Contract → Bool) (c : Contract) → Tells below c →
    (d : Contract) → Alike (C.Transmit b p c) d → is_transmit b p below d ≡ true
transmit_out b p below c t _ (Alike.Transmit {d = d} h) = rw (binders_itself b, same_itself p) ((t d).1 h)

plus_in : (first second : Contract → Bool) (a b : Contract) → Tells first a → Tells second b →
    (d : Contract) → is_plus first second d ≡ true → Alike (C.Plus a b) d
plus_in first second a b t u (C.Plus c d) h = let k = both_true (first c) (second d) h in Alike.Plus ((t c).0 k.0) ((u d).0 k.1)
plus_in first second a b t u _ h = absurd cc

plus_out : (first second : Contract → Bool) (a b : Contract) → Tells first a → Tells second b →
    (d : Contract) → Alike (C.Plus a b) d → is_plus first second d ≡ true
plus_out first second a b t u _ (Alike.Plus {c = c} {d = d} h k) = and_both (first c) (second d) ((t c).1 h) ((u d).1 k)

seq_in : (first second : Contract → Bool) (a b : Contract) → Tells first a → Tells second b →
    (d : Contract) → is_seq first second d ≡ true → Alike (C.Seq a b) d
seq_in first second a b t u (C.Seq c d) h = let k = both_true (first c) (second d) h in Alike.Seq ((t c).0 k.0) ((u d).0 k.1)
seq_in first second a b t u _ h = absurd cc

seq_out : (first second : Contract → Bool) (a b : Contract) → Tells first a → Tells second b →
    (d : Contract) → Alike (C.Seq a b) d → is_seq first second d ≡ true
seq_out first second a b t u _ (Alike.Seq {c = c} {d = d} h k) = and_both (first c) (second d) ((t c).1 h) ((u d).1 k)

app_in : (f : Name) (args : List Expression) (d : Contract) → is_app f args d ≡ true → Alike (C.App f args) d
app_in f args (C.App g others) h =
    let k = both_true (same_name f g) (same_args args others) h in
    subst (λ x. Alike (C.App f args) (C.App x others)) (name_one f g k.0)
    (subst (λ ys. Alike (C.App f args) (C.App f ys)) (args_one args others k.1) Alike.App)
app_in f args _ h = absurd cc

app_out : (f : Name) (args : List Expression) (d : Contract) → Alike (C.App f args) d → is_app f args d ≡ true
app_out f args _ Alike.App = rw (name_itself f, args_itself args) refl

alike_tells : (c : Contract) → Tell (tests c) (parts c) → Tells (alike c) c
alike_tells c t d = (λ e. parts-alike c d (passed t (parts d) e), λ h. passing t (AreAlike-parts h))

one_tells : {test : Contract → Bool} {c : Contract} → Tells test c → Tell (test ∷ []) (c ∷ [])
one_tells t = Tell.One t Tell.None

tests_tell : (c : Contract) → Tell (tests c) (parts c)
tests_tell C.Success = one_tells success_tells
tests_tell C.Failure = one_tells failure_tells
tests_tell (C.Transmit b p c) =
    let t = alike_tells c (tests_tell c) in
    one_tells (λ d. (transmit_in b p (parts_pass (tests c)) c t d, transmit_out b p (parts_pass (tests c)) c t d))
tests_tell (C.Plus a b) =
    let t = alike_tells a (tests_tell a) in
    let u = alike_tells b (tests_tell b) in
    one_tells (λ d. (plus_in (parts_pass (tests a)) (parts_pass (tests b)) a b t u d, plus_out (parts_pass (tests a)) (parts_pass (tests b)) a b t u d))
tests_tell (C.Par a b) = Tell-append (tests_tell b) (tests_tell a)
tests_tell (C.Seq a b) =
    let t = alike_tells a (tests_tell a) in
    let u = alike_tells b (tests_tell b) in
    one_tells (λ d. (seq_in (parts_pass (tests a)) (parts_pass (tests b)) a b t u d, seq_out (parts_pass (tests a)) (parts_pass (tests b)) a b t u d))
tests_tell (C.App f args) = one_tells (λ d. (app_in f args d, app_out f args d))

-- the test is true of alike contracts alone
pub alike_iff : (c d : Contract) → IsTrue (alike c d) ↔ Alike c d
alike_iff c = alike_tells c (tests_tell c)
