-- What may be asked: folding answers it, replacing names keeps it, and it is no more than the size.
use Rattle.std.proofs.Common.{◌≡◌, ℕ, ◌+◌, ◌≤◌, List, [], ◌∷◌, map, refl, sym, ◌∙◌, ap₂, Option, Some, None, inl, inr, arith, length, sum_by}
use Rattle.std.proofs.lemmas.List.Sums.{sum_by-cons}
use Rattle.poets_value.specs.declared.value.Name.{Name}
use Rattle.poets_value.specs.declared.value.Ty.{Ty}
use Rattle.poets_value.specs.declared.value.Value.{Value}
use Rattle.poets_value.specs.declared.value.Value.TheVariants as V
use Rattle.poets_expr.specs.Env.{same_name}
use Rattle.poets_expr.specs.Expression.{Expression, Literal, Undefined, Named, Unary, Make, Binary, If}
use Rattle.poets_expr.specs.Size.{nodes, nodes_of_all}
use Rattle.poets_expr.specs.Subst.{Givens, subst, replaced, literal_of}
use Rattle.poets_syntax.specs.Contract.{Contract, Success, Failure, Transmit, Plus, Par, Seq, App}
use Rattle.poets_syntax.specs.Replace.{without, replace}
use Rattle.poets_syntax.proofs.Replacing.{truth}
use Rattle.poets_meaning.specs.Width.{size}
use Rattle.poets_norm.specs.Questions.{operated, questions}
use Rattle.poets_norm.proofs.Measures.{IsMeasure}

-- a number that is the same of each literal and each name stays where names are replaced by literals
module _ (m : Expression → ℕ) (k : ℕ) (literal : (v : Value) → m (Literal v) ≡ k) (undefined : (t : Ty) → m (Undefined t) ≡ k) (named : (x : Name) → m (Named x) ≡ k) where
  pub leaf-literal : (o : Option Value) (t : Ty) → m (literal_of o t) ≡ k
  leaf-literal None t = undefined t
  leaf-literal (Some (V.Agent x)) t = named x
  leaf-literal (Some (V.Kind x)) t = named x
  leaf-literal (Some (V.Int n)) t = literal (V.Int n)
  leaf-literal (Some (V.Bool b)) t = literal (V.Bool b)
  leaf-literal (Some (V.Resource r)) t = literal (V.Resource r)
  leaf-literal (Some (V.Day d)) t = literal (V.Day d)

  pub leaf-replaced : (given : Givens) (x : Name) → m (replaced given x) ≡ k
  leaf-replaced [] x = named x
  leaf-replaced (p ∷ given) x = elim (truth (same_name p.0 x)) [
    | inl e ↦ rw e (leaf-literal p.1.value p.1.ty)
    | inr e ↦ rw e (leaf-replaced given x)
  ]

operated-subst : (given : Givens) (e : Expression) → operated (subst given e) ≡ operated e
operated-subst given (Literal v) = refl
operated-subst given (Undefined t) = refl
operated-subst given (Named x) = leaf-replaced operated 0 (λ v. refl) (λ t. refl) (λ y. refl) given x
operated-subst given (Unary o a) = refl
operated-subst given (Make a b) = refl
operated-subst given (Binary o a b) = refl
operated-subst given (If a b c) = refl

operated_of_all-subst : (given : Givens) (args : List Expression) → sum_by operated (map (subst given) args) ≡ sum_by operated args
operated_of_all-subst given [] = refl
operated_of_all-subst given (a ∷ args) =
    sum_by-cons operated (subst given a) (map (subst given) args) ∙ ap₂ (λ m n. m + n) (operated-subst given a) (operated_of_all-subst given args)
    ∙ sym (sum_by-cons operated a args)

pub questions-replace : (given : Givens) (c : Contract) → questions (replace given c) ≡ questions c
questions-replace given Success = refl
questions-replace given Failure = refl
questions-replace given (Transmit b p c) = ap₂ (λ m n. m + n) refl (questions-replace (without b given) c)
questions-replace given (Plus a b) = ap₂ (λ m n. m + n) (questions-replace given a) (questions-replace given b)
questions-replace given (Par a b) = ap₂ (λ m n. m + n) (questions-replace given a) (questions-replace given b)
questions-replace given (Seq a b) = ap₂ (λ m n. m + n) (questions-replace given a) (questions-replace given b)
questions-replace given (App f args) = operated_of_all-subst given args

-- no more than the nodes
operated-le : (e : Expression) → operated e ≤ nodes e
operated-le (Literal v) = omega arith
operated-le (Undefined t) = omega arith
operated-le (Named x) = omega arith
operated-le (Unary o a) = omega arith
operated-le (Make a b) = omega arith
operated-le (Binary o a b) = omega arith
operated-le (If a b c) = omega arith

pub operated_of_all-le : (args : List Expression) → sum_by operated args ≤ nodes_of_all args
operated_of_all-le [] = omega arith
operated_of_all-le (a ∷ args) = omega (arith, sum_by-cons operated a args, operated-le a, operated_of_all-le args)

-- no more than one of each argument
operated-one : (e : Expression) → operated e ≤ 1
operated-one (Literal v) = omega arith
operated-one (Undefined t) = omega arith
operated-one (Named x) = omega arith
operated-one (Unary o a) = omega arith
operated-one (Make a b) = omega arith
operated-one (Binary o a b) = omega arith
operated-one (If a b c) = omega arith

pub operated_of_all-one : (args : List Expression) → sum_by operated args ≤ length args
operated_of_all-one [] = omega arith
operated_of_all-one (a ∷ args) = omega (arith, sum_by-cons operated a args, operated-one a, operated_of_all-one args)

pub questions-le : (c : Contract) → questions c ≤ size c
questions-le Success = omega arith
questions-le Failure = omega arith
questions-le (Transmit b p c) = omega (arith, questions-le c)
questions-le (Plus a b) = omega (arith, questions-le a, questions-le b)
questions-le (Par a b) = omega (arith, questions-le a, questions-le b)
questions-le (Seq a b) = omega (arith, questions-le a, questions-le b)
questions-le (App f args) = omega (arith, operated_of_all-le args)

pub questions-measure : IsMeasure 0 questions
questions-measure = record { failure = omega arith; plus = λ a b. omega arith; par = λ a b. omega arith }
