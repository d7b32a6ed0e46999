-- Alternatives of two contracts joined side by side or in sequence.
use Rattle.std.proofs.Common.{◌≡◌, ◌↔◌, IsTrue, Bool, false, ◌+◌, ◌≤◌, List, [], ◌∷◌, fold, refl, sym, ◌∙◌, ap, subst, arith, inl, inr}
use Rattle.std.specs.List.{Contains}
use Rattle.poets_expr.specs.Expression.{Expression}
use Rattle.poets_syntax.specs.declared.term.Binders.{Binders}
use Rattle.poets_syntax.specs.Contract.{Contract, Success, Failure, Transmit, Plus, Par, Seq, App}
use Rattle.poets_meaning.specs.Width.{size}
use Rattle.poets_calculus.specs.Alike.{parts}
use Rattle.poets_calculus.specs.Normal.{par, seq, send}
use Rattle.poets_calculus.proofs.Regrouping.{first_part}
use Rattle.poets_norm.specs.Choices.{regrouped}
use Rattle.poets_norm.specs.code.Grouping.{beside_parts}
use Rattle.poets_route.proofs.Parted.{beside_two, regrouped_two, par-first, par-last}
use Rattle.poets_norm.proofs.Parts.{IsProper, proper, par-failure, par_joined}
use Rattle.poets_route.specs.code.Choices.{IsAlternative, HasNoFront, HasNoStart}
use Rattle.poets_route.proofs.Choices.{of_choice, no_alternative, one_alternative, itself}

-- an alternative is no greater than its choice
one_size : (c d : Contract) → Contains (c ∷ []) d → size d ≤ size c
one_size c d h = let e : size c ≡ size d = ap size (one_alternative c d h) in omega (arith, e)

alternative_size : (c d : Contract) → IsAlternative c d → size d ≤ size c
alternative_size Success d h = one_size Success d h
alternative_size Failure d h = no_alternative d h
alternative_size (Transmit b p c) d h = one_size (Transmit b p c) d h
alternative_size (Plus a b) d h = elim (of_choice a b d h) [
  | inl l ↦ (let k = alternative_size a d l in omega (arith, k))
  | inr l ↦ (let k = alternative_size b d l in omega (arith, k))
]
alternative_size (Par a b) d h = one_size (Par a b) d h
alternative_size (Seq a b) d h = one_size (Seq a b) d h
alternative_size (App f args) d h = one_size (App f args) d h

-- parts joined to a contract make it greater
beside_size : (x b : Contract) → size (beside_parts x b) ≡ size x + size b + 1
beside_size x (Par u v) =
    let whole = ap size (beside_two x u v) in
    let outer = beside_size (beside_parts x u) v in
    let inner = beside_size x u in
    omega (arith, whole, outer, inner)
beside_size x Success = omega arith
beside_size x Failure = omega arith
beside_size x (Transmit b p c) = omega arith
beside_size x (Plus u v) = omega arith
beside_size x (Seq u v) = omega arith
beside_size x (App f args) = omega arith

no_part : {P : Type 0} (x b : Contract) → IsAlternative b (beside_parts x b) → P
no_part x b h = absurd (let k = alternative_size b (beside_parts x b) h in let l = beside_size x b in omega (arith, k, l))

no_step : {P : Type 0} (x b : Contract) → IsAlternative b (Seq x b) → P
no_step x b h = absurd (let k : size (Seq x b) ≤ size b = alternative_size b (Seq x b) h in omega (arith, k))

-- and it can be told from them
pub beside_one : (x y b : Contract) → beside_parts x b ≡ beside_parts y b → x ≡ y
beside_one x y (Par u v) e =
    beside_one x y u (beside_one (beside_parts x u) (beside_parts y u) v (sym (beside_two x u v) ∙ e ∙ beside_two y u v))
beside_one x y Success e = cc
beside_one x y Failure e = cc
beside_one x y (Transmit b p c) e = cc
beside_one x y (Plus u v) e = cc
beside_one x y (Seq u v) e = cc
beside_one x y (App f args) e = cc

-- what is joined is two contracts side by side
folded_par : (a b : Contract) (ds : List Contract) → (x : Contract) × (y : Contract) × (fold Par (Par a b) ds ≡ Par x y)
folded_par a b [] = (a, b, refl)
folded_par a b (d ∷ ds) = folded_par (Par a b) d ds

beside_par : (a b : Contract) → (x : Contract) × (y : Contract) × (beside_parts a b ≡ Par x y)
beside_par a b = let f = first_part b in let k = folded_par a f.0 f.1 in (k.0, k.1, ap (λ ds. fold Par a ds) f.2 ∙ k.2)

only_beside : (a b c : Contract) → IsAlternative (beside_parts a b) c → c ≡ beside_parts a b
only_beside a b c h =
    let k = beside_par a b in
    sym (one_alternative (Par k.0 k.1) c (subst (λ x. IsAlternative x c) k.2 h)) ∙ sym k.2

-- two contracts side by side that go on
joined : (a b c : Contract) → regrouped a ≡ a → IsProper a → IsProper b → IsAlternative (par a b) c → c ≡ beside_parts a b
joined a b c grouped h k i =
    only_beside a b c (subst (λ x. IsAlternative x c) (par_joined a b h k ∙ regrouped_two a b ∙ ap (λ x. beside_parts x b) grouped) i)

pub par_both : (a b c : Contract) → regrouped a ≡ a → IsProper a → (b ≡ Success → ⊥) → IsAlternative (par a b) c → c ≡ beside_parts a b
par_both a b c grouped h some i = elim (proper b) [
  | inl e ↦ no_alternative c (subst (λ x. IsAlternative x c) (ap (par a) e ∙ par-failure a) i)
  | inr (inl e) ↦ absurd (some e)
  | inr (inr k) ↦ joined a b c grouped h k i
]

-- whether a contract is an alternative of two side by side
pub proper_of : (c : Contract) → (c ≡ Failure → ⊥) → (c ≡ Success → ⊥) → IsProper c
proper_of c h k = elim (proper c) [
  | inl e ↦ absurd (h e)
  | inr (inl e) ↦ absurd (k e)
  | inr (inr p) ↦ p
]

pub beside_failure : (a b c : Contract) → b ≡ Failure → IsTrue false ↔ IsAlternative (par a b) c
beside_failure a b c e = (
  (λ t. absurd cc),
  (λ h. no_alternative c (subst (λ x. IsAlternative x c) (ap (par a) e ∙ par-failure a) h)),
)

pub beside_success : (a b c : Contract) (r : Bool) → b ≡ Success → IsTrue r ↔ IsAlternative a c → IsTrue r ↔ IsAlternative (par a b) c
beside_success a b c r e iff =
    let alone : par a b ≡ a = ap (par a) e ∙ par-last a in (
      (λ t. subst (λ x. IsAlternative x c) (sym alone) (iff.0 t)),
      (λ h. iff.1 (subst (λ x. IsAlternative x c) alone h)),
    )

pub beside_joined : (a b c : Contract) (r : Bool) → regrouped a ≡ a → (a ≡ Failure → ⊥) → (a ≡ Success → ⊥) → (b ≡ Failure → ⊥) → (b ≡ Success → ⊥) →
    IsTrue r ↔ (c ≡ beside_parts a b) → IsTrue r ↔ IsAlternative (par a b) c
beside_joined a b c r grouped h k l m iff =
    let p = proper_of a h k in
    let q = proper_of b l m in
    let w = beside_par a b in
    let whole : beside_parts a b ≡ par a b = sym (par_joined a b p q ∙ regrouped_two a b ∙ ap (λ x. beside_parts x b) grouped) in
    let here : IsAlternative (beside_parts a b) (beside_parts a b) = subst (λ x. IsAlternative x x) (sym w.2) (itself (Par w.0 w.1)) in (
      (λ t. subst (λ x. IsAlternative (par a b) x) (sym (iff.0 t)) (subst (λ x. IsAlternative x (beside_parts a b)) whole here)),
      (λ i. iff.1 (joined a b c grouped p q i)),
    )

-- whether it is the first with the parts of the second
pub front_not : (a b c : Contract) → HasNoFront c b → IsTrue false ↔ (c ≡ beside_parts a b)
front_not a b c absent = ((λ t. absurd cc), (λ e. absurd (absent a e)))

pub front_same : (a b c x : Contract) (r : Bool) → c ≡ beside_parts x b → IsTrue r ↔ (x ≡ a) → IsTrue r ↔ (c ≡ beside_parts a b)
front_same a b c x r found iff = (
  (λ t. found ∙ ap (λ y. beside_parts y b) (iff.0 t)),
  (λ e. iff.1 (beside_one x a b (sym found ∙ e))),
)

-- two contracts side by side, of which the second stands in the alternative: the first is the rest of it
pub par_with : (a b x : Contract) → regrouped a ≡ a → (b ≡ Success → ⊥) → IsAlternative (par a b) (beside_parts x b) → x ≡ a
par_with a b x grouped some h = elim (proper a) [
  | inl e ↦ no_alternative (beside_parts x b) (subst (λ y. IsAlternative (par y b) (beside_parts x b)) e h)
  | inr (inl e) ↦ no_part x b (subst (λ y. IsAlternative y (beside_parts x b)) (ap (λ y. par y b) e ∙ par-first b) h)
  | inr (inr k) ↦ beside_one x a b (par_both a b (beside_parts x b) grouped k some h)
]

-- of which it does not: the first is over
pub par_rest : (a b c : Contract) → regrouped a ≡ a → (b ≡ Success → ⊥) → HasNoFront c b → IsAlternative (par a b) c → (a ≡ Success) × IsAlternative b c
par_rest a b c grouped some absent h = elim (proper a) [
  | inl e ↦ no_alternative c (subst (λ y. IsAlternative (par y b) c) e h)
  | inr (inl e) ↦ (e, subst (λ y. IsAlternative y c) (ap (λ y. par y b) e ∙ par-first b) h)
  | inr (inr k) ↦ absurd (absent a (par_both a b c grouped k some h))
]

-- `Success` leaves the other
pub par-second : (a : Contract) → par a Success ≡ a
par-second a = par-last a

pub seq-second : (a : Contract) → seq a Success ≡ a
seq-second Failure = refl
seq-second Success = refl
seq-second _ = refl

-- a transmit before a contract
pub of_send : (b : Binders) (p : Expression) (c d : Contract) → IsAlternative (send b p c) d → Transmit b p c ≡ d
of_send b p Failure d h = no_alternative d h
of_send b p Success d h = one_alternative (Transmit b p Success) d h
of_send b p (Transmit b' p' c) d h = one_alternative (Transmit b p (Transmit b' p' c)) d h
of_send b p (Plus x y) d h = one_alternative (Transmit b p (Plus x y)) d h
of_send b p (Par x y) d h = one_alternative (Transmit b p (Par x y)) d h
of_send b p (Seq x y) d h = one_alternative (Transmit b p (Seq x y)) d h
of_send b p (App f args) d h = one_alternative (Transmit b p (App f args)) d h

-- the same of sequences
pub seq_with : (a b x : Contract) → (b ≡ Success → ⊥) → IsAlternative (seq a b) (Seq x b) → x ≡ a
seq_with Failure b x some h = no_alternative (Seq x b) h
seq_with a Failure x some h = no_alternative (Seq x Failure) h
seq_with Success b x some h = no_step x b h
seq_with a Success x some h = absurd (some refl)
seq_with a b x some h = let e : Seq a b ≡ Seq x b = one_alternative (Seq a b) (Seq x b) h in cc

pub seq_rest : (a b c : Contract) → (b ≡ Success → ⊥) → HasNoStart c b → IsAlternative (seq a b) c → (a ≡ Success) × IsAlternative b c
seq_rest Failure b c some absent h = no_alternative c h
seq_rest a Failure c some absent h = no_alternative c h
seq_rest Success b c some absent h = (refl, h)
seq_rest a Success c some absent h = absurd (some refl)
seq_rest a b c some absent h = absurd (absent a (sym (one_alternative (Seq a b) c h)))

-- where the last parts are found, and no front of what is left, there is none
pub front_none : (c s a b r da db : Contract) → s ≡ Par a b → da ≡ a → db ≡ b → c ≡ beside_parts r db → HasNoFront r da → HasNoFront c s
front_none c s a b r da db whole first last found absent x e =
    let k : beside_parts r b ≡ beside_parts (beside_parts x a) b =
    sym (found ∙ ap (beside_parts r) last) ∙ e ∙ ap (beside_parts x) whole ∙ beside_two x a b in
    absent x (beside_one r (beside_parts x a) b k ∙ ap (beside_parts x) (sym first))
