-- The residual of each form, from those of its parts.
use Rattle.std.proofs.Common.{◌≡◌, ℕ, zero, suc, List, [], length, refl, sym, ◌∙◌, ap, ap₂, Some, None, inl, inr, if◌then◌else◌}
use Rattle.poets_value.specs.declared.value.Name.{Name}
use Rattle.poets_value.specs.declared.event.Event.{Event}
use Rattle.poets_expr.specs.Expression.{Expression}
use Rattle.poets_expr.specs.Val.{val}
use Rattle.poets_syntax.specs.declared.term.Binders.{Binders}
use Rattle.poets_syntax.specs.Contract.{Contract, Success, Failure, Transmit, Plus, Par, Seq, App}
use Rattle.poets_syntax.specs.Plain.{Book, Template}
use Rattle.poets_syntax.specs.Book.{template_in, taken}
use Rattle.poets_syntax.specs.Replace.{replace}
use Rattle.poets_syntax.specs.Applied.{CountsFit}
use Rattle.poets_syntax.specs.Givens.{event_givens}
use Rattle.poets_syntax.proofs.Replacing.{truth}
use Rattle.poets_meaning.specs.Marks.{Marks, nullable}
use Rattle.poets_meaning.specs.Exposed.{EachExposed}
use Rattle.poets_meaning.specs.Truth.{is_true}
use Rattle.poets_meaning.proofs.Nullability.{EachExposed-weaker}
use Rattle.poets_calculus.specs.Normal.{normal, plus, par, seq}
use Rattle.poets_calculus.specs.Residual.{after_by, body_of, after_at, after}
use Rattle.poets_calculus.proofs.Unfolded.{unfolds-guarded}
use Rattle.poets_residue.specs.Unfolding.{UnfoldsWithin, IsStudied}
use Rattle.poets_residue.proofs.Kept.{after_at-failure}
use Rattle.poets_residue.proofs.Unfoldings.{found}

module _ (book : Book) (marks : Marks) (e : Event) where
  pub after_at-success : (d : ℕ) → after_at d book marks e Success ≡ Failure
  after_at-success zero = refl
  after_at-success (suc d) = refl

  pub after_at-transmit : (d : ℕ) (b : Binders) (p : Expression) (c : Contract) → after_at d book marks e (Transmit b p c)
      ≡ (if is_true (val book.declared (taken b e []) p) then normal book marks (replace (event_givens b e) c) else Failure)
  after_at-transmit zero b p c = refl
  after_at-transmit (suc d) b p c = refl

  pub after_at-plus : (d : ℕ) (a b : Contract) → after_at d book marks e (Plus a b) ≡ plus (after_at d book marks e a) (after_at d book marks e b)
  after_at-plus zero a b = refl
  after_at-plus (suc d) a b = refl

  pub after_at-par : (d : ℕ) (a b : Contract) →
      after_at d book marks e (Par a b) ≡ plus (par (after_at d book marks e a) b) (par a (after_at d book marks e b))
  after_at-par zero a b = refl
  after_at-par (suc d) a b = refl

  pub after_at-seq : (d : ℕ) (a b : Contract) → after_at d book marks e (Seq a b)
      ≡ (if nullable marks a then plus (seq (after_at d book marks e a) b) (after_at d book marks e b) else seq (after_at d book marks e a) b)
  after_at-seq zero a b = refl
  after_at-seq (suc d) a b = refl

  pub after-transmit : (b : Binders) (p : Expression) (c : Contract) → after book marks e (Transmit b p c)
      ≡ (if is_true (val book.declared (taken b e []) p) then normal book marks (replace (event_givens b e) c) else Failure)
  after-transmit = after_at-transmit (length book.templates)

  pub after-plus : (a b : Contract) → after book marks e (Plus a b) ≡ plus (after book marks e a) (after book marks e b)
  after-plus = after_at-plus (length book.templates)

  pub after-par : (a b : Contract) → after book marks e (Par a b) ≡ plus (par (after book marks e a) b) (par a (after book marks e b))
  after-par = after_at-par (length book.templates)

  pub after-seq : (a b : Contract) → after book marks e (Seq a b)
      ≡ (if nullable marks a then plus (seq (after book marks e a) b) (after book marks e b) else seq (after book marks e a) b)
  after-seq = after_at-seq (length book.templates)

  -- residuals that agree on the exposed applications agree
  after_by-alike : (u v : Name → List Expression → Contract) (c : Contract) → EachExposed (λ f args. u f args ≡ v f args) marks c →
      after_by u book marks e c ≡ after_by v book marks e c
  after_by-alike u v Success h = refl
  after_by-alike u v Failure h = refl
  after_by-alike u v (Transmit b p c) h = refl
  after_by-alike u v (Plus a b) h = ap₂ plus (after_by-alike u v a h.0) (after_by-alike u v b h.1)
  after_by-alike u v (Par a b) h = ap₂ (λ x y. plus (par x b) (par a y)) (after_by-alike u v a h.0) (after_by-alike u v b h.1)
  after_by-alike u v (Seq a b) h =
      let first = after_by-alike u v a h.0 in
      elim (truth (nullable marks a)) [
        | inl k ↦ (let second = after_by-alike u v b (h.1 k) in rw k (ap₂ (λ x y. plus (seq x b) y) first second))
        | inr k ↦ rw k (ap (λ x. seq x b) first)
      ]
  after_by-alike u v (App f args) h = h

  -- more unfoldings than enough change nothing
  steady : (d : ℕ) (c : Contract) → UnfoldsWithin d book marks c → after_at (suc d) book marks e c ≡ after_at d book marks e c
  steady zero c h =
      after_by-alike (λ f args. after_at zero book marks e (body_of book marks (template_in book.templates f) args)) (λ _ _. Failure) c
      (EachExposed-weaker (λ f args. template_in book.templates f ≡ None)
      (λ f args. after_at zero book marks e (body_of book marks (template_in book.templates f) args) ≡ Failure) marks (λ f args k. rw k refl) c h)
  steady (suc d) c h =
      after_by-alike (λ f args. after_at (suc d) book marks e (body_of book marks (template_in book.templates f) args))
      (λ f args. after_at d book marks e (body_of book marks (template_in book.templates f) args)) c
      (EachExposed-weaker _ (λ f args. after_at (suc d) book marks e (body_of book marks (template_in book.templates f) args)
      ≡ after_at d book marks e (body_of book marks (template_in book.templates f) args)) marks
      (λ f args k. elim (found (template_in book.templates f)) [
        | inl none ↦ rw none (sym (after_at-failure d book marks e))
        | inr t ↦ rw t.1 (steady d (body_of book marks (Some t.0) args) (k t.0 t.1).1)
      ]) c h)

  -- an application leaves what its body leaves
  pub after-app : IsStudied book marks → (f : Name) (args : List Expression) → CountsFit book (App f args) →
      after book marks e (App f args) ≡ after book marks e (body_of book marks (template_in book.templates f) args)
  after-app study f args h =
      sym (steady (length book.templates) (App f args) (unfolds-guarded book marks study.right study.guarded study.fit (App f args) h))

  pub after-none : IsStudied book marks → (f : Name) (args : List Expression) → CountsFit book (App f args) → template_in book.templates f ≡ None →
      after book marks e (App f args) ≡ Failure
  after-none study f args h q =
      after-app study f args h ∙ ap (λ o. after book marks e (body_of book marks o args)) q ∙ after_at-failure (length book.templates) book marks e

  pub after-some : IsStudied book marks → (f : Name) (args : List Expression) → CountsFit book (App f args) → (t : Template) →
      template_in book.templates f ≡ Some t → after book marks e (App f args) ≡ after book marks e (body_of book marks (Some t) args)
  after-some study f args h t q = after-app study f args h ∙ ap (λ o. after book marks e (body_of book marks o args)) q
