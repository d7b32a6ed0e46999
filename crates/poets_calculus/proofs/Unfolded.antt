-- In a guarded book so many unfoldings as there are templates are enough.
use Rattle.std.proofs.Common.{◌≡◌, ℕ, zero, suc, ◌≤◌, arith, List, length, ◌∙◌, Some, None, inl, inr}
use Rattle.poets_value.specs.declared.value.Name.{Name}
use Rattle.poets_syntax.specs.Contract.{Contract}
use Rattle.poets_syntax.specs.Plain.{Book, Template}
use Rattle.poets_syntax.specs.Book.{template_in}
use Rattle.poets_syntax.specs.Applied.{CountsFit, BodiesCountsFit}
use Rattle.poets_meaning.specs.Marks.{Marks, AreRight}
use Rattle.poets_meaning.specs.Exposed.{EachExposed}
use Rattle.poets_meaning.specs.Guarded.{IsGuarded}
use Rattle.poets_meaning.proofs.Nullability.{EachExposed-weaker}
use Rattle.poets_meaning.proofs.Ahead.{less, names_of, length-names_of, Comes, fewer_to_come, all_come, body_comes}
use Rattle.poets_meaning.proofs.Unfolded.{found}
use Rattle.poets_calculus.specs.Exposed.{UnfoldsWithin}
use Rattle.poets_calculus.specs.Residual.{body_of}
use Rattle.poets_calculus.proofs.Exposures.{EachExposed-body}

module _ (book : Book) (marks : Marks) (right : AreRight book marks) (guarded : IsGuarded book) (bodies : BodiesCountsFit book) where
  deep : (d : ℕ) (coming : List Name) (c : Contract) → length coming ≤ d → EachExposed (Comes book guarded coming) marks c → UnfoldsWithin d book marks c
  deep zero coming c l h =
      EachExposed-weaker (Comes book guarded coming) (λ f _. template_in book.templates f ≡ None) marks (λ f args k. elim (found (template_in book.templates f)) [
        | inl none ↦ none
        | inr t ↦ (let m = fewer_to_come book guarded coming f t.0 t.1 k.0 in absurd (omega (arith, m, l)))
      ]) c h
  deep (suc d) coming c l h =
      EachExposed-weaker (Comes book guarded coming) (λ f args. (t : Template) → template_in book.templates f ≡ Some t →
      (length t.params ≡ length args) × UnfoldsWithin d book marks (body_of book marks (Some t) args)) marks (λ f args k t i. (
        k.1 t i,
        (let m = fewer_to_come book guarded coming f t i k.0 in
            deep d (less coming f) (body_of book marks (Some t) args) (omega (arith, m, l))
            (EachExposed-body book marks (Comes book guarded (less coming f)) (λ g xs ys e p. (p.0, λ u j. p.1 u j ∙ e)) t args (body_comes book guarded marks right coming f t i k.0 (bodies f t i)))),
      )) c h

  pub unfolds-guarded : (c : Contract) → CountsFit book c → UnfoldsWithin (length book.templates) book marks c
  unfolds-guarded c h =
      deep (length book.templates) (names_of book.templates) c (let m = length-names_of book.templates in omega (arith, m)) (all_come book guarded marks right c h)
