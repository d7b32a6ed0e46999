-- Residuals that are choices of distinct alternatives.
use Rattle.std.proofs.Common.{◌≡◌, ℕ, zero, suc, true, List, [], refl, subst, Option, inl, inr}
use Rattle.poets_value.specs.declared.event.Event.{Event}
use Rattle.poets_expr.specs.Expression.{Expression}
use Rattle.poets_expr.specs.Val.{val}
use Rattle.poets_syntax.specs.Contract.{Contract, Success, Failure, Transmit, Plus, Par, Seq, App}
use Rattle.poets_syntax.specs.Plain.{Book, Template}
use Rattle.poets_syntax.specs.Book.{template_in, taken}
use Rattle.poets_syntax.specs.Replace.{replace}
use Rattle.poets_syntax.specs.Givens.{event_givens, argument_givens}
use Rattle.poets_syntax.proofs.Replacing.{truth}
use Rattle.poets_meaning.specs.Marks.{Marks, nullable}
use Rattle.poets_meaning.specs.Truth.{is_true}
use Rattle.poets_calculus.specs.Normal.{par, seq}
use Rattle.poets_calculus.specs.Residual.{body_of, after_at}
use Rattle.poets_norm.specs.Choices.{IsDistinctChoice}
use Rattle.poets_norm.proofs.Alternatives.{distinct_choice-twice}
use Rattle.poets_norm.proofs.NormalForms.{IsBuilt, built-normal, normal_of_built, normal_is_distinct}
use Rattle.poets_norm.proofs.Parts.{FailureOr}
use Rattle.poets_residue.proofs.Kept.{of_body, built-after_at}
use Rattle.poets_residue.proofs.Equations.{after_at-success, after_at-transmit, after_at-plus, after_at-par, after_at-seq}

-- all but those of sequences whose first part may not end
abbrev pub IsJoined : Marks → Contract → Type 0
IsJoined marks (Seq a b) = nullable marks a ≡ true
IsJoined marks _ = Unit {0}

module _ (book : Book) (marks : Marks) (e : Event) where
  distinct-body : (d : ℕ) (o : Option Template) (args : List Expression) → IsDistinctChoice (after_at d book marks e (body_of book marks o args))
  distinct-body d o args =
      let c = body_of book marks o args in
      let built = of_body book marks (FailureOr (IsBuilt book marks)) (inl refl) o args
      (λ t q. built-normal book marks (replace (argument_givens book.declared t.params args) t.body)) in
      subst IsDistinctChoice (normal_of_built book marks (after_at d book marks e c) (built-after_at book marks e d c built))
      (normal_is_distinct book marks (after_at d book marks e c))

  pub distinct-after_at : (d : ℕ) (c : Contract) → IsJoined marks c → IsDistinctChoice (after_at d book marks e c)
  distinct-after_at d Success h = rw (after_at-success book marks e d) refl
  distinct-after_at zero Failure h = refl
  distinct-after_at (suc d) Failure h = refl
  distinct-after_at d (Transmit b p c) h = rw (after_at-transmit book marks e d b p c) (elim (truth (is_true (val book.declared (taken b e []) p))) [
    | inl k ↦ rw k (normal_is_distinct book marks (replace (event_givens b e) c))
    | inr k ↦ rw k refl
  ])
  distinct-after_at d (Plus a b) h =
      rw (after_at-plus book marks e d a b) (distinct_choice-twice (Plus (after_at d book marks e a) (after_at d book marks e b)))
  distinct-after_at d (Par a b) h =
      rw (after_at-par book marks e d a b) (distinct_choice-twice (Plus (par (after_at d book marks e a) b) (par a (after_at d book marks e b))))
  distinct-after_at d (Seq a b) h =
      rw (after_at-seq book marks e d a b, h) (distinct_choice-twice (Plus (seq (after_at d book marks e a) b) (after_at d book marks e b)))
  distinct-after_at zero (App f args) h = refl
  distinct-after_at (suc d) (App f args) h = distinct-body d (template_in book.templates f) args
