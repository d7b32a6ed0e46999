-- The marks of a studied book are right.
use Rattle.std.proofs.Common.{◌≡◌, Bool, List, [], ◌∷◌, Some, inl, inr, ◌↔◌, IsTrue, subst, sym}
use Rattle.std.specs.List.{AllZip}
use Rattle.poets_value.specs.declared.value.Name.{Name}
use Rattle.poets_expr.specs.Env.{same_name}
use Rattle.poets_syntax.specs.Contract.{Contract}
use Rattle.poets_syntax.specs.Plain.{Book, Template}
use Rattle.poets_syntax.specs.Book.{template_in}
use Rattle.poets_syntax.proofs.Replacing.{truth}
use Rattle.poets_meaning.specs.declared.studied.Mark.{Mark}
use Rattle.poets_meaning.specs.Marks.{AreRight, Nullable, Hopeful}
use Rattle.poets_meaning.specs.Studied.{has_mark, marks_in, IsRightMark, IsStudiedBook}

module _ (Is : Contract → Type 0) (is : Mark → Bool) where
  -- a mark that says so of each body says it of the template that is found by name
  pub has_mark_iff : (R : Template → Mark → Type 0) → ((t : Template) (m : Mark) → R t m → IsTrue (is m) ↔ Is t.body) →
      (templates : List Template) (marks : List Mark) → AllZip R templates marks → (f : Name) →
      IsTrue (has_mark is templates marks f) ↔ ((t : Template) × (template_in templates f ≡ Some t) × Is t.body)
  has_mark_iff R right [] [] h f = (λ k. absurd cc, λ b. absurd (let e = b.1 in cc))
  has_mark_iff R right [] (m ∷ marks) h f = absurd h
  has_mark_iff R right (t ∷ templates) [] h f = absurd h
  has_mark_iff R right (t ∷ templates) (m ∷ marks) h f =
      let here = right t m h.0 in
      let rest = has_mark_iff R right templates marks h.1 f in
      elim (truth (same_name t.name f)) [
        | inl e ↦ (
          λ k. (t, rw e refl_some, here.0 (rw e at k)),
          λ b. (let q : Some t ≡ Some b.0 = rw e at b.1 in let p : t ≡ b.0 = cc in rw e (here.1 (subst (λ u. Is u.body) (sym p) b.2))),
        )
        | inr e ↦ (
          λ k. (let b = rest.0 (rw e at k) in (b.0, rw e b.1, b.2)),
          λ b. rw e (rest.1 (b.0, rw e at b.1, b.2)),
        )
      ]
    where
      refl_some : Some t ≡ Some t
      refl_some = cc

pub AreRight-studied : (book : Book) (marks : List Mark) → IsStudiedBook book marks → AreRight book (marks_in book.templates marks)
AreRight-studied book marks h = record {
  nullable = has_mark_iff (Nullable book) (λ m. m.nullable) (IsRightMark book (marks_in book.templates marks)) (λ t m r. r.nullable) book.templates marks h.right;
  hopeful = has_mark_iff (Hopeful book) (λ m. m.hopeful) (IsRightMark book (marks_in book.templates marks)) (λ t m r. r.hopeful) book.templates marks h.right;
}
