-- In a guarded book the width unfolds.
use Rattle.std.proofs.Common.{◌≡◌, ℕ, zero, suc, ◌+◌, ◌≤◌, arith, List, length, refl, sym, ap, ap₂, Option, Some, None, ◌⊎◌, inl, inr}
use Rattle.poets_value.specs.declared.value.Name.{Name}
use Rattle.poets_expr.specs.Size.{nodes_of_all}
use Rattle.poets_syntax.specs.Contract.{Contract}
use Rattle.poets_syntax.specs.Plain.{Book, Template}
use Rattle.poets_syntax.specs.Book.{template_in}
use Rattle.poets_syntax.specs.Applied.{CountsFit, BodiesCountsFit}
use Rattle.poets_syntax.proofs.Replacing.{truth}
use Rattle.poets_meaning.specs.Marks.{Marks, AreRight, nullable}
use Rattle.poets_meaning.specs.Exposed.{EachExposed}
use Rattle.poets_meaning.specs.Guarded.{IsGuarded}
use Rattle.poets_meaning.specs.Width.{size, wide_by, body_in, wide_at, width}
use Rattle.poets_meaning.proofs.Nullability.{EachExposed-weaker}
use Rattle.poets_meaning.proofs.Ahead.{less, names_of, length-names_of, Comes, fewer_to_come, all_come, body_comes}

pub found : (o : Option Template) → (o ≡ None) ⊎ ((t : Template) × o ≡ Some t)
found None = inl refl
found (Some t) = inr (t, refl)

-- widths that agree on the exposed applications agree
wide_by-alike : (marks : Marks) (w w' : Name → ℕ) (c : Contract) → EachExposed (λ g _. w g ≡ w' g) marks c → wide_by w marks c ≡ wide_by w' marks c
wide_by-alike marks w w' Contract.Success h = refl
wide_by-alike marks w w' Contract.Failure h = refl
wide_by-alike marks w w' (Contract.Transmit b p c) h = refl
wide_by-alike marks w w' (Contract.Plus a b) h = ap₂ (λ m n. 1 + m + n) (wide_by-alike marks w w' a h.0) (wide_by-alike marks w w' b h.1)
wide_by-alike marks w w' (Contract.Par a b) h = ap₂ (λ m n. 1 + m + n) (wide_by-alike marks w w' a h.0) (wide_by-alike marks w w' b h.1)
wide_by-alike marks w w' (Contract.Seq a b) h =
    let first = wide_by-alike marks w w' a h.0 in
    elim (truth (nullable marks a)) [
      | inl e ↦ (let second = wide_by-alike marks w w' b (h.1 e) in rw e (ap₂ (λ m n. 1 + m + n) first second))
      | inr e ↦ rw e (ap (λ m. 1 + m + size b) first)
    ]
wide_by-alike marks w w' (Contract.App f args) h = ap (λ m. 1 + nodes_of_all args + m) h

module _ (book : Book) (marks : Marks) (right : AreRight book marks) (guarded : IsGuarded book) (bodies : BodiesCountsFit book) where
  -- the width of a template's body, with so many unfoldings in a row
  abbrev body_wide : ℕ → Name → ℕ
  body_wide d f = body_in (template_in book.templates f) (wide_at d book marks)

  steady : (d : ℕ) (coming : List Name) (c : Contract) → length coming ≤ d → EachExposed (Comes book guarded coming) marks c →
      wide_at (suc d) book marks c ≡ wide_at d book marks c
  steady zero coming c l h = wide_by-alike marks (body_wide zero) (λ _. 0) c
      (EachExposed-weaker (Comes book guarded coming) (λ f _. body_wide zero f ≡ 0) marks (λ f args k. elim (found (template_in book.templates f)) [
        | inl none ↦ rw none refl
        | inr t ↦ (let m = fewer_to_come book guarded coming f t.0 t.1 k.0 in absurd (omega (arith, m, l)))
      ]) c h)
  steady (suc d) coming c l h = wide_by-alike marks (body_wide (suc d)) (body_wide d) c
      (EachExposed-weaker (Comes book guarded coming) (λ f _. body_wide (suc d) f ≡ body_wide d f) marks (λ f args k. elim (found (template_in book.templates f)) [
        | inl none ↦ rw none refl
        | inr t ↦ (let m = fewer_to_come book guarded coming f t.0 t.1 k.0 in
            rw t.1 (steady d (less coming f) t.0.body (omega (arith, m, l)) (body_comes book guarded marks right coming f t.0 t.1 k.0 (bodies f t.0 t.1))))
      ]) c h)

  pub width-unfolded : (c : Contract) → CountsFit book c → width book marks c ≡ wide_by (body_wide (length book.templates)) marks c
  width-unfolded c h =
      sym (steady (length book.templates) (names_of book.templates) c (let m = length-names_of book.templates in omega (arith, m))
      (all_come book guarded marks right c h))
