-- A normal form is nullable exactly where the contract is, and so is a contract whose names were replaced.
use Rattle.std.proofs.Common.{◌≡◌, true, false, ◌||◌, ◌&&◌, refl, sym, ◌∙◌, ap₂, inl, inr}
use Rattle.std.specs.Cmp.{both_ways}
use Rattle.std.proofs.Math.Bool.{and-false, and-true}
use Rattle.poets_value.specs.declared.value.Name.{Name}
use Rattle.poets_expr.specs.Expression.{Expression}
use Rattle.poets_expr.specs.Subst.{Givens}
use Rattle.poets_syntax.specs.declared.term.Binders.{Binders}
use Rattle.poets_syntax.specs.Contract.{Contract, Success, Failure, Transmit, Plus, Par, Seq, App}
use Rattle.poets_syntax.specs.Plain.{Book}
use Rattle.poets_syntax.specs.Replace.{replace}
use Rattle.poets_syntax.proofs.Replacing.{truth}
use Rattle.poets_meaning.specs.Marks.{Marks, AreRight, nullable}
use Rattle.poets_meaning.proofs.Nullability.{or_first, or_second, either_true}
use Rattle.poets_meaning.proofs.Granting.{Perf-May}
use Rattle.poets_calculus.specs.Normal.{plus, par, seq, send, normal}
use Rattle.poets_calculus.proofs.AlikeMeasures.{Alike-nullable}
use Rattle.poets_calculus.proofs.Regrouping.{Alike-regrouped}
use Rattle.poets_norm.proofs.SomePart.{IsOfSomePart, plus_in, plus_out}

module _ (marks : Marks) where
  nullable-of_some_part : IsOfSomePart (λ c. nullable marks c ≡ true)
  nullable-of_some_part = record {
    none = λ e. absurd cc;
    left = λ a b e. or_first (nullable marks a) (nullable marks b) e;
    right = λ a b e. or_second (nullable marks a) (nullable marks b) e;
    parts = λ a b e. either_true (nullable marks a) (nullable marks b) e;
    alike = λ a b h e. sym (Alike-nullable marks h) ∙ e;
  }

  -- the builders
  pub nullable-plus : (a b : Contract) → nullable marks (plus a b) ≡ (nullable marks a || nullable marks b)
  nullable-plus a b = both_ways (nullable marks (plus a b)) (nullable marks (Plus a b))
      (plus_out (λ c. nullable marks c ≡ true) nullable-of_some_part a b) (plus_in (λ c. nullable marks c ≡ true) nullable-of_some_part a b)

  pub nullable-par : (a b : Contract) → nullable marks (par a b) ≡ (nullable marks a && nullable marks b)
  nullable-par Failure b = refl
  nullable-par a Failure = sym (and-false (nullable marks a))
  nullable-par Success b = refl
  nullable-par a Success = sym (and-true (nullable marks a))
  nullable-par a b = sym (Alike-nullable marks (Alike-regrouped (Par a b)))

  pub nullable-seq : (a b : Contract) → nullable marks (seq a b) ≡ (nullable marks a && nullable marks b)
  nullable-seq Failure b = refl
  nullable-seq a Failure = sym (and-false (nullable marks a))
  nullable-seq Success b = refl
  nullable-seq a Success = sym (and-true (nullable marks a))
  nullable-seq _ _ = refl

  nullable-send : (b : Binders) (p : Expression) (c : Contract) → nullable marks (send b p c) ≡ false
  nullable-send b p Failure = refl
  nullable-send b p _ = refl

  pub nullable-replace : (given : Givens) (c : Contract) → nullable marks (replace given c) ≡ nullable marks c
  nullable-replace given Success = refl
  nullable-replace given Failure = refl
  nullable-replace given (Transmit b p c) = refl
  nullable-replace given (Plus a b) = ap₂ (λ x y. x || y) (nullable-replace given a) (nullable-replace given b)
  nullable-replace given (Par a b) = ap₂ (λ x y. x && y) (nullable-replace given a) (nullable-replace given b)
  nullable-replace given (Seq a b) = ap₂ (λ x y. x && y) (nullable-replace given a) (nullable-replace given b)
  nullable-replace given (App f args) = refl

module _ (book : Book) (marks : Marks) (right : AreRight book marks) where
  -- what is nullable is hopeful
  not_nullable : (f : Name) → marks.hopeful f ≡ false → marks.nullable f ≡ false
  not_nullable f h = elim (truth (marks.nullable f)) [
    | inl e ↦ (let body = (right.nullable f).0 e in
        let k = (right.hopeful f).1 (body.0, body.1, (0, Perf-May body.2)) in
        let l : true ≡ false = sym k ∙ h in absurd cc)
    | inr e ↦ e
  ]

  pub nullable-normal : (c : Contract) → nullable marks (normal book marks c) ≡ nullable marks c
  nullable-normal Success = refl
  nullable-normal Failure = refl
  nullable-normal (Transmit b p c) = nullable-send marks b p (normal book marks c)
  nullable-normal (Plus a b) =
      nullable-plus marks (normal book marks a) (normal book marks b) ∙ ap₂ (λ x y. x || y) (nullable-normal a) (nullable-normal b)
  nullable-normal (Par a b) =
      nullable-par marks (normal book marks a) (normal book marks b) ∙ ap₂ (λ x y. x && y) (nullable-normal a) (nullable-normal b)
  nullable-normal (Seq a b) =
      nullable-seq marks (normal book marks a) (normal book marks b) ∙ ap₂ (λ x y. x && y) (nullable-normal a) (nullable-normal b)
  nullable-normal (App f args) = elim (truth (marks.hopeful f)) [
    | inl e ↦ rw e refl
    | inr e ↦ rw e (sym (not_nullable f e))
  ]
