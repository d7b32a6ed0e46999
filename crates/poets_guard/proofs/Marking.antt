-- What is said of templates tells which contracts may end.
use Rattle.std.proofs.Common.{◌≡◌, ℕ, suc, ◌+◌, arith, Bool, true, false, cond, ◌||◌, ◌&&◌, List, [], length, map, refl, sym, ◌∙◌, subst, Option, Some, ◌⊎◌, inl, inr}
use Rattle.std.specs.Ordering.{is_eq}
use Rattle.poets_value.specs.declared.value.Name.{Name}
use Rattle.poets_value.specs.Names.{name_cmp}
use Rattle.poets_value.specs.declared.event.Event.{Event}
use Rattle.poets_expr.specs.Env.{Env, same_name}
use Rattle.poets_expr.specs.Expression.{Expression}
use Rattle.poets_expr.specs.Val.{val}
use Rattle.poets_expr.proofs.SameTrees.{both_true, name_one}
use Rattle.poets_syntax.specs.declared.term.Binders.{Binders}
use Rattle.poets_syntax.specs.Contract.{Contract}
use Rattle.poets_syntax.specs.Plain.{Book, Template}
use Rattle.poets_syntax.specs.Book.{template_in, parameter_env, granted as granted_env}
use Rattle.poets_syntax.specs.Applied.{Takes, ApplicationsFit}
use Rattle.poets_syntax.proofs.Replacing.{truth}
use Rattle.poets_meaning.specs.May.{May}
use Rattle.poets_meaning.specs.Marks.{BodySatisfies}
use Rattle.poets_meaning.proofs.Granting.{May-anywhere}
use Rattle.poets_meaning.proofs.Lists.{Between-nil, parts_of_nil}
use Rattle.poets_meaning.specs.Between.{Between}
use Rattle.poets_guard.specs.code.Endings.{ends, MayEnd, IsSound}
use Rattle.poets_guard.proofs.Places.{name_cmp-same, same_name-self}

pub either_true : (a b : Bool) → (a || b) ≡ true → (a ≡ true) ⊎ (b ≡ true)
either_true true b e = inl refl
either_true false b e = inr e

or_first : (a b : Bool) → a ≡ true → (a || b) ≡ true
or_first a b e = rw e refl

pub or_second : (a b : Bool) → b ≡ true → (a || b) ≡ true
or_second true b e = refl
or_second false b e = e

and_both : (a b : Bool) → a ≡ true → b ≡ true → (a && b) ≡ true
and_both a b e k = rw e k

pub one_template : {o : Option Template} {t u : Template} → o ≡ Some t → o ≡ Some u → t ≡ u
one_template i j = cc

module _ (book : Book) (granted : Bool) where
  pub MayEnd-transmit : {b : Binders} {p : Expression} {c : Contract} → granted ≡ true → MayEnd book granted c → MayEnd book granted (Contract.Transmit b p c)
  MayEnd-transmit {b = b} k m = (suc m.0, May.Granted (May-anywhere m.1 refl (granted_env b [])), λ e. let l : true ≡ false = sym k ∙ e in cc)

  pub MayEnd-left : {a b : Contract} → MayEnd book granted a → MayEnd book granted (Contract.Plus a b)
  MayEnd-left m = (m.0, May.Left m.1, m.2)

  pub MayEnd-right : {a b : Contract} → MayEnd book granted b → MayEnd book granted (Contract.Plus a b)
  MayEnd-right m = (m.0, May.Right m.1, m.2)

  pub MayEnd-par : {a b : Contract} → MayEnd book granted a → MayEnd book granted b → MayEnd book granted (Contract.Par a b)
  MayEnd-par m n = (m.0 + n.0, May.Beside Between.Empty refl m.1 n.1, λ g. (let i = m.2 g in let j = n.2 g in omega (arith, i, j)))

  pub MayEnd-seq : {a b : Contract} → MayEnd book granted a → MayEnd book granted b → MayEnd book granted (Contract.Seq a b)
  MayEnd-seq m n = (m.0 + n.0, May.ThenGranted refl m.1 n.1, λ g. (let i = m.2 g in let j = n.2 g in omega (arith, i, j)))

  pub MayEnd-app : {f : Name} {args : List Expression} → Takes book f (length args) → BodySatisfies book (MayEnd book granted) f → MayEnd book granted (Contract.App f args)
  MayEnd-app {args = args} h body =
      let t = body.0 in
      let count : length t.params ≡ length args = subst (λ u. length u.params ≡ length args) (one_template h.1 body.1) h.2 in
      (body.2.0, May.Body body.1 count (May-anywhere body.2.1 refl (parameter_env t.params (map (val book.declared []) args))), body.2.2)

module _ (book : Book) (granted : Bool) (says : Name → Bool) where
  -- what is said to end may end
  pub ends-sound : IsSound book granted says → (c : Contract) → ApplicationsFit book c → ends granted says c ≡ true → MayEnd book granted c
  ends-sound s Contract.Success a h = (0, May.Done, λ _. refl)
  ends-sound s Contract.Failure a h = absurd cc
  ends-sound s (Contract.Transmit b p c) a h = let k = both_true granted (ends granted says c) h in MayEnd-transmit book granted k.0 (ends-sound s c a k.1)
  ends-sound s (Contract.Plus a b) h e = elim (either_true (ends granted says a) (ends granted says b) e) [
    | inl k ↦ MayEnd-left book granted (ends-sound s a h.0 k)
    | inr k ↦ MayEnd-right book granted (ends-sound s b h.1 k)
  ]
  ends-sound s (Contract.Par a b) h e =
      let k = both_true (ends granted says a) (ends granted says b) e in MayEnd-par book granted (ends-sound s a h.0 k.0) (ends-sound s b h.1 k.1)
  ends-sound s (Contract.Seq a b) h e =
      let k = both_true (ends granted says a) (ends granted says b) e in MayEnd-seq book granted (ends-sound s a h.0 k.0) (ends-sound s b h.1 k.1)
  ends-sound s (Contract.App f args) h e = MayEnd-app book granted h (s f e)

  -- what may end is said to, where each template is whose body is said to
  pub ends-complete : ((f : Name) (t : Template) → template_in book.templates f ≡ Some t → ends granted says t.body ≡ true → says f ≡ true) →
      {env : Env} {c : Contract} {s : List Event} {n : ℕ} → May book env c s n → s ≡ [] → (granted ≡ false → n ≡ 0) → ends granted says c ≡ true
  ends-complete k May.Done e g = refl
  ends-complete k (May.Taken h m) e g = absurd cc
  ends-complete k (May.Granted {c = c} {n = n} m) e g = elim (truth granted) [
    | inl y ↦ and_both granted (ends granted says c) y (ends-complete k m refl (λ z. let l : true ≡ false = sym y ∙ z in absurd cc))
    | inr y ↦ (let l = g y in absurd (omega (arith, l)))
  ]
  ends-complete k (May.Left {c₁ = a} {c₂ = b} m) e g = or_first (ends granted says a) (ends granted says b) (ends-complete k m e g)
  ends-complete k (May.Right {c₁ = a} {c₂ = b} m) e g = or_second (ends granted says a) (ends granted says b) (ends-complete k m e g)
  ends-complete k (May.Beside {c₁ = a} {c₂ = b} i q m n) e g =
      let s = Between-nil i e in
      and_both (ends granted says a) (ends granted says b)
      (ends-complete k m s.0 (λ y. let z = g y in omega (arith, z, q))) (ends-complete k n s.1 (λ y. let z = g y in omega (arith, z, q)))
  ends-complete k (May.Then {c₁ = a} {c₂ = b} {s₁ = s₁} {s₂ = s₂} i m n) e g =
      let s = parts_of_nil s₁ s₂ (sym e ∙ i) in
      and_both (ends granted says a) (ends granted says b) (ends-complete k m s.0 (λ _. refl)) (ends-complete k n s.1 g)
  ends-complete k (May.ThenGranted {c₁ = a} {c₂ = b} q m n) e g =
      and_both (ends granted says a) (ends granted says b)
      (ends-complete k m e (λ y. let z = g y in omega (arith, z, q))) (ends-complete k n refl (λ y. let z = g y in omega (arith, z, q)))
  ends-complete k (May.Body {f = f} {t = t} i l m) e g = k f t i (ends-complete k m e g)

-- one name more
module _ (says says' : Name → Bool) (x : Name) (more : (q : Name) → says' q ≡ cond (is_eq (name_cmp x q)) true (says q)) where
  pub said : (q : Name) → says' q ≡ true → (x ≡ q) ⊎ (says q ≡ true)
  said q h = by (same_name x q) (sym (name_cmp-same x q)) (sym (more q) ∙ h)
    where
      by : (b : Bool) → b ≡ is_eq (name_cmp x q) → cond (is_eq (name_cmp x q)) true (says q) ≡ true → (x ≡ q) ⊎ (says q ≡ true)
      by true e k = inl (name_one x q (sym (name_cmp-same x q) ∙ sym e))
      by false e k = inr (rw (sym e) at k)

  pub still_said : (q : Name) → says q ≡ true → says' q ≡ true
  still_said q h = more q ∙ by (is_eq (name_cmp x q)) h
    where
      by : (b : Bool) → says q ≡ true → cond b true (says q) ≡ true
      by true k = refl
      by false k = k

  pub now_said : says' x ≡ true
  now_said = more x ∙ rw (name_cmp-same x x ∙ same_name-self x) refl
