-- Widths of contracts, of their parts and of unfolded bodies.
use Rattle.std.proofs.Common.{◌≡◌, ℕ, zero, suc, ◌+◌, ◌≤◌, ◌<◌, arith, List, length, refl, ◌∙◌, ap, Some, inl, inr, if◌then◌else◌}
use Rattle.std.specs.Prelude.{sum_by}
use Rattle.poets_value.specs.declared.value.Name.{Name}
use Rattle.poets_expr.specs.Expression.{Expression}
use Rattle.poets_expr.specs.Size.{nodes_of_all}
use Rattle.poets_syntax.specs.declared.term.Binders.{Binders}
use Rattle.poets_syntax.specs.Contract.{Contract, Transmit, Plus, Par, Seq, App}
use Rattle.poets_syntax.specs.Plain.{Book, Template}
use Rattle.poets_syntax.specs.Book.{template_in}
use Rattle.poets_syntax.specs.Replace.{replace}
use Rattle.poets_syntax.specs.Applied.{CountsFit}
use Rattle.poets_syntax.specs.Givens.{argument_givens}
use Rattle.poets_syntax.proofs.Replacing.{truth}
use Rattle.poets_meaning.specs.Marks.{Marks, nullable}
use Rattle.poets_meaning.specs.Width.{size, wide_at, body_in, width}
use Rattle.poets_meaning.proofs.Unfolded.{width-unfolded}
use Rattle.poets_calculus.specs.Residual.{body_of}
use Rattle.poets_norm.specs.Questions.{operated, questions}
use Rattle.poets_norm.proofs.Asked.{questions-le}
use Rattle.poets_norm.proofs.Sizes.{exposed, wide_by-exposed, exposed-normal, exposed-replace, width-normal, width-replace}
use Rattle.poets_residue.specs.Unfolding.{IsStudied}
use Rattle.poets_residue.proofs.Kept.{CountsFit-body}

module _ (book : Book) (marks : Marks) where
  wide_at-transmit : (d : ℕ) (b : Binders) (p : Expression) (c : Contract) → wide_at d book marks (Transmit b p c) ≡ size (Transmit b p c)
  wide_at-transmit zero b p c = refl
  wide_at-transmit (suc d) b p c = refl

  wide_at-plus : (d : ℕ) (a b : Contract) → wide_at d book marks (Plus a b) ≡ 1 + wide_at d book marks a + wide_at d book marks b
  wide_at-plus zero a b = refl
  wide_at-plus (suc d) a b = refl

  wide_at-par : (d : ℕ) (a b : Contract) → wide_at d book marks (Par a b) ≡ 1 + wide_at d book marks a + wide_at d book marks b
  wide_at-par zero a b = refl
  wide_at-par (suc d) a b = refl

  wide_at-seq : (d : ℕ) (a b : Contract) →
      wide_at d book marks (Seq a b) ≡ 1 + wide_at d book marks a + (if nullable marks a then wide_at d book marks b else size b)
  wide_at-seq zero a b = refl
  wide_at-seq (suc d) a b = refl

  size-wide_at : (d : ℕ) (c : Contract) → size c ≤ wide_at d book marks c
  size-wide_at zero c = omega (arith, wide_by-exposed (λ _. 0) marks c)
  size-wide_at (suc d) c = omega (arith, wide_by-exposed (λ f. body_in (template_in book.templates f) (wide_at d book marks)) marks c)

  pub width-transmit : (b : Binders) (p : Expression) (c : Contract) → width book marks (Transmit b p c) ≡ size (Transmit b p c)
  width-transmit = wide_at-transmit (length book.templates)

  pub width-plus : (a b : Contract) → width book marks (Plus a b) ≡ 1 + width book marks a + width book marks b
  width-plus = wide_at-plus (length book.templates)

  pub width-par : (a b : Contract) → width book marks (Par a b) ≡ 1 + width book marks a + width book marks b
  width-par = wide_at-par (length book.templates)

  pub width-seq : (a b : Contract) →
      width book marks (Seq a b) ≡ 1 + width book marks a + (if nullable marks a then width book marks b else size b)
  width-seq = wide_at-seq (length book.templates)

  pub size-width : (c : Contract) → size c ≤ width book marks c
  size-width = size-wide_at (length book.templates)

  -- the second part of a sequence counts at least with its size
  pub width-first : (a b : Contract) → 1 + width book marks a + size b ≤ width book marks (Seq a b)
  width-first a b =
      let whole = width-seq a b in
      let second = size-width b in
      elim (truth (nullable marks a)) [
        | inl k ↦ (let w = rw k at whole in omega (arith, w, second))
        | inr k ↦ (let w = rw k at whole in omega (arith, w))
      ]

  module _ (study : IsStudied book marks) where
    -- an application of a template
    pub width-app : (f : Name) (args : List Expression) → CountsFit book (App f args) → (t : Template) → template_in book.templates f ≡ Some t →
        width book marks (App f args) ≡ 1 + nodes_of_all args + width book marks t.body
    width-app f args h t q =
        width-unfolded book marks study.right study.guarded study.fit (App f args) h
        ∙ ap (λ o. 1 + nodes_of_all args + body_in o (width book marks)) q

    -- what the exposed applications add to the size
    abbrev added : Contract → ℕ
    added c = exposed (λ f. body_in (template_in book.templates f) (width book marks)) marks c

    width-added : (c : Contract) → CountsFit book c → width book marks c ≡ size c + added c
    width-added c h =
        width-unfolded book marks study.right study.guarded study.fit c h
        ∙ wide_by-exposed (λ f. body_in (template_in book.templates f) (width book marks)) marks c

    module _ (f : Name) (args : List Expression) (t : Template) (q : template_in book.templates f ≡ Some t) where
      -- the unfolded body
      abbrev body : Contract
      body = body_of book marks (Some t) args

      CountsFit-some : CountsFit book body
      CountsFit-some = rw q at (CountsFit-body book marks study.fit f args)

      -- it adds no more to its size than the template's body does
      added-body : added body ≤ added t.body
      added-body =
          let given = argument_givens book.declared t.params args in
          omega (
            arith,
            exposed-normal (λ g. body_in (template_in book.templates g) (width book marks)) marks book study.right (replace given t.body),
            exposed-replace (λ g. body_in (template_in book.templates g) (width book marks)) marks given t.body,
          )

      -- it is not so wide as the application
      pub body-smaller : CountsFit book (App f args) → width book marks body < width book marks (App f args)
      body-smaller h =
          let given = argument_givens book.declared t.params args in
          omega (arith, width-app f args h t q, width-normal book marks study.right (replace given t.body), width-replace book marks given t.body)

      -- what the application asks before its body is unfolded, and with the body
      pub asks-unfolding : CountsFit book (App f args) → (x y : ℕ) → y ≤ x + sum_by operated args + questions t.body →
          y + size (App f args) ≤ x + questions (App f args) + width book marks (App f args)
      asks-unfolding h x y l = omega (arith, l, width-app f args h t q, questions-le t.body, size-width t.body)

      pub asks-unfolded : CountsFit book (App f args) → (x y z : ℕ) → y + questions body ≤ x + sum_by operated args + questions t.body →
          z + size body ≤ y + questions body + width book marks body →
          z + size (App f args) ≤ x + questions (App f args) + width book marks (App f args)
      asks-unfolded h x y z l m =
          omega (arith, l, m, width-app f args h t q, questions-le t.body, width-added t.body (study.fit f t q), width-added body CountsFit-some, added-body)
