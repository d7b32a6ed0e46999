-- Residuals with so many unfoldings in a row.
use Rattle.std.proofs.Common.{◌≡◌, ℕ, zero, suc, Bool, true, false, List, [], length, refl, sym, ◌∙◌, ap, ap₂, Option, Some, None, ◌⊎◌, inl, inr}
use Rattle.poets_value.specs.declared.value.Name.{Name}
use Rattle.poets_value.specs.declared.event.Event.{Event}
use Rattle.poets_expr.specs.Expression.{Expression}
use Rattle.poets_expr.specs.Val.{val}
use Rattle.poets_syntax.specs.Contract.{Contract}
use Rattle.poets_syntax.specs.Contract as C
use Rattle.poets_syntax.specs.Plain.{Book, Template}
use Rattle.poets_syntax.specs.Book.{template_in, taken}
use Rattle.poets_syntax.specs.WellFormed.{IsWellFormed, IsDeclaredEvent, AreWellFormed, HaveDeclaredLiterals}
use Rattle.poets_syntax.proofs.Replacing.{truth}
use Rattle.poets_meaning.specs.Marks.{Marks, AreRight, Nullable, nullable}
use Rattle.poets_meaning.specs.Truth.{is_true}
use Rattle.poets_meaning.specs.Exposed.{EachExposed}
use Rattle.poets_meaning.proofs.Nullability.{nullable_in, nullable_performed, true_holds, false_fails, EachExposed-weaker}
use Rattle.poets_calculus.specs.Normal.{plus, par, seq}
use Rattle.poets_calculus.specs.Residual.{After, after_by, after_at, body_of}
use Rattle.poets_residue.specs.Unfolding.{UnfoldsWithin}
use Rattle.poets_residue.proofs.Kept.{IsWellFormed-body, after_at-failure}
use Rattle.poets_syntax.specs.Applied.{FitsTemplate}
use Rattle.poets_residue.proofs.Following.{Follows, Follows-success, Follows-failure, Follows-taken, Follows-refused, Follows-plus, Follows-par, Follows-over, Follows-seq, Follows-body, Follows-none}

pub found : (o : Option Template) → (o ≡ None) ⊎ ((t : Template) × o ≡ Some t)
found None = inl refl
found (Some t) = inr (t, refl)

-- what an application of a template is at a depth of unfolding
abbrev UnfoldsAt : ℕ → Book → Marks → Name → List Expression → Type 0
UnfoldsAt zero book marks f args = template_in book.templates f ≡ None
UnfoldsAt (suc d) book marks f args =
    (t : Template) → template_in book.templates f ≡ Some t →
    (length t.params ≡ length args) × UnfoldsWithin d book marks (body_of book marks (Some t) args)

exposed : (d : ℕ) (book : Book) (marks : Marks) (c : Contract) → UnfoldsWithin d book marks c → EachExposed (UnfoldsAt d book marks) marks c
exposed zero book marks c h = h
exposed (suc d) book marks c h = h

UnfoldsAt-fits : (d : ℕ) (book : Book) (marks : Marks) (f : Name) (args : List Expression) → UnfoldsAt d book marks f args → FitsTemplate book f args
UnfoldsAt-fits zero book marks f args h t q = absurd cc
UnfoldsAt-fits (suc d) book marks f args h t q = (h t q).0

module _ (book : Book) (marks : Marks) (right : AreRight book marks) where
  -- the test of the marks is that of the empty trace
  pub nullable_yes : (Is : Name → List Expression → Type 0) → ((f : Name) (args : List Expression) → Is f args → FitsTemplate book f args) →
      (c : Contract) → EachExposed Is marks c → nullable marks c ≡ true → Nullable book c
  nullable_yes Is fits c h e = nullable_performed book marks right [] c (EachExposed-weaker Is (FitsTemplate book) marks fits c h) e

  pub nullable_no : (c : Contract) → nullable marks c ≡ false → Nullable book c → ⊥
  nullable_no c k p = let j : true ≡ false = sym (nullable_in book marks right p refl) ∙ k in cc

module _ (book : Book) (marks : Marks) (right : AreRight book marks) (e : Event) (declared : IsDeclaredEvent book.declared e) where
  Follows-after_by : (unfold_at : Name → List Expression → Contract) (Is : Name → List Expression → Type 0) →
      ((f : Name) (args : List Expression) → Is f args → FitsTemplate book f args) →
      ((f : Name) (args : List Expression) → Is f args → HaveDeclaredLiterals book.declared args → Follows book e (C.App f args) (unfold_at f args)) →
      (c : Contract) → EachExposed Is marks c → IsWellFormed book.declared c → Follows book e c (after_by unfold_at book marks e c)
  Follows-after_by u Is fits unfolded C.Success x h = Follows-success book e
  Follows-after_by u Is fits unfolded C.Failure x h = Follows-failure book e
  Follows-after_by u Is fits unfolded (C.Transmit b p c) x h = elim (truth (is_true (val book.declared (taken b e []) p))) [
    | inl k ↦ rw k (Follows-taken book marks right e declared b p c h.1 (true_holds (val book.declared (taken b e []) p) k))
    | inr k ↦ rw k (Follows-refused book e b p c (false_fails (val book.declared (taken b e []) p) k))
  ]
  Follows-after_by u Is fits unfolded (C.Plus a b) x h =
      Follows-plus book e (Follows-after_by u Is fits unfolded a x.0 h.0) (Follows-after_by u Is fits unfolded b x.1 h.1)
  Follows-after_by u Is fits unfolded (C.Par a b) x h =
      Follows-par book e (Follows-after_by u Is fits unfolded a x.0 h.0) (Follows-after_by u Is fits unfolded b x.1 h.1)
  Follows-after_by u Is fits unfolded (C.Seq a b) x h =
      let first = Follows-after_by u Is fits unfolded a x.0 h.0 in
      elim (truth (nullable marks a)) [
        | inl k ↦ rw k (Follows-over book e (nullable_yes book marks right Is fits a x.0 k) first (Follows-after_by u Is fits unfolded b (x.1 k) h.1))
        | inr k ↦ rw k (Follows-seq book e (nullable_no book marks right a k) first)
      ]
  Follows-after_by u Is fits unfolded (C.App f args) x h = unfolded f args x h

  -- one unfolding more
  unfolded_more : AreWellFormed book → (d : ℕ) →
      ((c : Contract) → UnfoldsWithin d book marks c → IsWellFormed book.declared c → Follows book e c (after_at d book marks e c)) →
      (f : Name) (args : List Expression) → UnfoldsAt (suc d) book marks f args → HaveDeclaredLiterals book.declared args →
      Follows book e (C.App f args) (after_at d book marks e (body_of book marks (template_in book.templates f) args))
  unfolded_more formed d rest f args k literals = elim (found (template_in book.templates f)) [
    | inl none ↦ rw (none, after_at-failure d book marks e) (Follows-none book e f args none)
    | inr here ↦ rw here.1 (Follows-body book marks right e f args here.0 (formed f here.0 here.1) literals here.1 (k here.0 here.1).0
        (rest (body_of book marks (Some here.0) args) (k here.0 here.1).1 (IsWellFormed-body book marks here.0 args (formed f here.0 here.1) literals)))
  ]

  pub Follows-after_at : AreWellFormed book → (d : ℕ) (c : Contract) → UnfoldsWithin d book marks c → IsWellFormed book.declared c →
      Follows book e c (after_at d book marks e c)
  Follows-after_at formed zero c x h =
      Follows-after_by (λ _ _. C.Failure) (UnfoldsAt zero book marks) (UnfoldsAt-fits zero book marks)
      (λ f args none _. Follows-none book e f args none) c x h
  Follows-after_at formed (suc d) c x h =
      Follows-after_by (λ f args. after_at d book marks e (body_of book marks (template_in book.templates f) args))
      (UnfoldsAt (suc d) book marks) (UnfoldsAt-fits (suc d) book marks) (unfolded_more formed d (Follows-after_at formed d)) c x h

-- a test that is decided
is_yes : (b : Bool) → ((b ≡ false) → ⊥) → b ≡ true
is_yes true h = refl
is_yes false h = absurd (h refl)

is_no : (b : Bool) → ((b ≡ true) → ⊥) → b ≡ false
is_no true h = absurd (h refl)
is_no false h = refl

-- with enough unfoldings the function gives what the relation says
module _ (book : Book) (marks : Marks) (right : AreRight book marks) (e : Event) where
  Is-after_by : (d : ℕ) (unfold_at : Name → List Expression → Contract) →
      ((f : Name) (args : List Expression) (r : Contract) → UnfoldsAt d book marks f args → After book marks e (C.App f args) r → unfold_at f args ≡ r) →
      {c r : Contract} → After book marks e c r → EachExposed (UnfoldsAt d book marks) marks c → after_by unfold_at book marks e c ≡ r
  Is-after_by d u unfolded After.Success x = refl
  Is-after_by d u unfolded After.Failure x = refl
  Is-after_by d u unfolded (After.Taken {b = b} {p = p} q) x =
      rw (is_yes (is_true (val book.declared (taken b e []) p)) (λ k. false_fails (val book.declared (taken b e []) p) k q)) refl
  Is-after_by d u unfolded (After.Refused {b = b} {p = p} q) x =
      rw (is_no (is_true (val book.declared (taken b e []) p)) (λ k. q (true_holds (val book.declared (taken b e []) p) k))) refl
  Is-after_by d u unfolded (After.Plus a b) x = ap₂ plus (Is-after_by d u unfolded a x.0) (Is-after_by d u unfolded b x.1)
  Is-after_by d u unfolded (After.Par {c₁ = c₁} {c₂ = c₂} a b) x =
      ap₂ (λ y z. plus (par y c₂) (par c₁ z)) (Is-after_by d u unfolded a x.0) (Is-after_by d u unfolded b x.1)
  Is-after_by d u unfolded (After.Over {c₁ = c₁} {c₂ = c₂} o a b) x =
      let k = nullable_in book marks right o refl in
      rw k (ap₂ (λ y z. plus (seq y c₂) z) (Is-after_by d u unfolded a x.0) (Is-after_by d u unfolded b (x.1 k)))
  Is-after_by d u unfolded (After.Seq {c₁ = c₁} {c₂ = c₂} o a) x =
      rw (is_no (nullable marks c₁) (λ k. o (nullable_yes book marks right (UnfoldsAt d book marks) (UnfoldsAt-fits d book marks) c₁ x.0 k)))
      (ap (λ y. seq y c₂) (Is-after_by d u unfolded a x.0))
  Is-after_by d u unfolded (After.Body {f = f} {args = args} {r = r} q l a) x = unfolded f args r x (After.Body q l a)

  none_to_unfold : (f : Name) (args : List Expression) (r : Contract) → template_in book.templates f ≡ None → After book marks e (C.App f args) r → C.Failure ≡ r
  none_to_unfold f args r none (After.Body q l a) = absurd cc

  one_to_unfold : (d : ℕ) → ((c r : Contract) → After book marks e c r → UnfoldsWithin d book marks c → after_at d book marks e c ≡ r) →
      (f : Name) (args : List Expression) (r : Contract) → UnfoldsAt (suc d) book marks f args → After book marks e (C.App f args) r →
      after_at d book marks e (body_of book marks (template_in book.templates f) args) ≡ r
  one_to_unfold d rest f args r k (After.Body {t = t} q l a) = rw q (rest (body_of book marks (Some t) args) r a (k t q).1)

  pub Is-after_at : (d : ℕ) (c r : Contract) → After book marks e c r → UnfoldsWithin d book marks c → after_at d book marks e c ≡ r
  Is-after_at zero c r a x = Is-after_by zero (λ _ _. C.Failure) none_to_unfold a x
  Is-after_at (suc d) c r a x =
      Is-after_by (suc d) (λ f args. after_at d book marks e (body_of book marks (template_in book.templates f) args))
      (one_to_unfold d (Is-after_at d)) a x
