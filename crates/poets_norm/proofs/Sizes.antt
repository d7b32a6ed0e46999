-- Sizes and widths: replacing names keeps them, and normal forms have no greater ones.
use Rattle.std.proofs.Common.{◌≡◌, ℕ, zero, suc, ◌+◌, ◌≤◌, Bool, true, false, List, [], ◌∷◌, map, length, refl, ap₂, inl, inr, arith, if◌then◌else◌}
use Rattle.poets_value.specs.declared.value.Name.{Name}
use Rattle.poets_expr.specs.Env.{Declared}
use Rattle.poets_expr.specs.Expression.{Expression, Literal, Undefined, Named, Unary, Make, Binary, If}
use Rattle.poets_expr.specs.Fold.{is_folded}
use Rattle.poets_expr.specs.Size.{nodes, nodes_of_all}
use Rattle.poets_expr.specs.Subst.{Givens, subst}
use Rattle.poets_expr.specs.Val.{val}
use Rattle.poets_syntax.specs.declared.term.Binders.{Binders}
use Rattle.poets_syntax.specs.declared.term.Param.{Param}
use Rattle.poets_syntax.specs.Contract.{Contract, Success, Failure, Transmit, Plus, Par, Seq, App}
use Rattle.poets_syntax.specs.Plain.{Book}
use Rattle.poets_syntax.specs.Book.{template_in}
use Rattle.poets_syntax.specs.Replace.{without, replace}
use Rattle.poets_syntax.proofs.Replacing.{truth}
use Rattle.poets_meaning.specs.Marks.{Marks, AreRight, nullable}
use Rattle.poets_meaning.specs.Width.{size, wide_by, body_in, wide_at, width}
use Rattle.poets_calculus.specs.Normal.{seq, send, folded, params_in, normal}
use Rattle.poets_norm.proofs.Asked.{leaf-literal, leaf-replaced}
use Rattle.poets_norm.proofs.Measures.{IsMeasure, plus-le, par-le}
use Rattle.poets_norm.proofs.Nullable.{nullable-replace, nullable-normal}

-- replacing names
pub nodes-subst : (given : Givens) (e : Expression) → nodes (subst given e) ≡ nodes e
nodes-subst given (Literal v) = refl
nodes-subst given (Undefined t) = refl
nodes-subst given (Named x) = leaf-replaced nodes 1 (λ v. refl) (λ t. refl) (λ y. refl) given x
nodes-subst given (Unary o a) = omega (arith, nodes-subst given a)
nodes-subst given (Make a b) = omega (arith, nodes-subst given a, nodes-subst given b)
nodes-subst given (Binary o a b) = omega (arith, nodes-subst given a, nodes-subst given b)
nodes-subst given (If a b c) = omega (arith, nodes-subst given a, nodes-subst given b, nodes-subst given c)

nodes_of_all-subst : (given : Givens) (args : List Expression) → nodes_of_all (map (subst given) args) ≡ nodes_of_all args
nodes_of_all-subst given [] = refl
nodes_of_all-subst given (a ∷ args) = omega (arith, nodes-subst given a, nodes_of_all-subst given args)

pub size-replace : (given : Givens) (c : Contract) → size (replace given c) ≡ size c
size-replace given Success = refl
size-replace given Failure = refl
size-replace given (Transmit b p c) = omega (arith, nodes-subst (without b given) p, size-replace (without b given) c)
size-replace given (Plus a b) = omega (arith, size-replace given a, size-replace given b)
size-replace given (Par a b) = omega (arith, size-replace given a, size-replace given b)
size-replace given (Seq a b) = omega (arith, size-replace given a, size-replace given b)
size-replace given (App f args) = omega (arith, nodes_of_all-subst given args)

-- normal forms
nodes_some : (e : Expression) → 1 ≤ nodes e
nodes_some (Literal v) = omega arith
nodes_some (Undefined t) = omega arith
nodes_some (Named x) = omega arith
nodes_some (Unary o a) = omega arith
nodes_some (Make a b) = omega arith
nodes_some (Binary o a b) = omega arith
nodes_some (If a b c) = omega arith

nodes-folded : (declared : Declared) (params : List Param) (args : List Expression) → nodes_of_all (folded declared params args) ≤ nodes_of_all args
nodes-folded declared [] [] = omega arith
nodes-folded declared [] (a ∷ args) = omega arith
nodes-folded declared (p ∷ params) [] = omega arith
nodes-folded declared (p ∷ params) (a ∷ args) =
    let rest = nodes-folded declared params args in
    elim (truth (is_folded declared a)) [
      | inl e ↦ rw e (omega (arith, leaf-literal nodes 1 (λ v. refl) (λ t. refl) (λ y. refl) (val declared [] a) p.ty, nodes_some a, rest))
      | inr e ↦ rw e (omega (arith, rest))
    ]

size-measure : IsMeasure 1 size
size-measure = record { failure = omega arith; plus = λ a b. omega arith; par = λ a b. omega arith }

size-seq : (a b : Contract) → size (seq a b) ≤ 1 + size a + size b
size-seq Failure b = omega arith
size-seq a Failure = omega arith
size-seq Success b = omega arith
size-seq a Success = omega arith
size-seq _ _ = omega arith

size-send : (b : Binders) (p : Expression) (c : Contract) → size (send b p c) ≤ 1 + nodes p + size c
size-send b p Failure = omega arith
size-send b p _ = omega arith

module _ (book : Book) (marks : Marks) where
  pub size-normal : (c : Contract) → size (normal book marks c) ≤ size c
  size-normal Success = omega arith
  size-normal Failure = omega arith
  size-normal (Transmit b p c) = omega (arith, size-send b p (normal book marks c), size-normal c)
  size-normal (Plus a b) = omega (arith, plus-le 1 size size-measure (normal book marks a) (normal book marks b), size-normal a, size-normal b)
  size-normal (Par a b) = omega (arith, par-le 1 size size-measure (normal book marks a) (normal book marks b), size-normal a, size-normal b)
  size-normal (Seq a b) = omega (arith, size-seq (normal book marks a) (normal book marks b), size-normal a, size-normal b)
  size-normal (App f args) = elim (truth (marks.hopeful f)) [
    | inl e ↦ rw e (omega (arith, nodes-folded book.declared (params_in book f) args))
    | inr e ↦ rw e (omega arith)
  ]

-- ---- what exposed applications add to the size

-- the sum over the exposed applications
abbrev pub exposed : (Name → ℕ) → Marks → Contract → ℕ
exposed w marks Success = 0
exposed w marks Failure = 0
exposed w marks (Transmit b p c) = 0
exposed w marks (Plus a b) = exposed w marks a + exposed w marks b
exposed w marks (Par a b) = exposed w marks a + exposed w marks b
exposed w marks (Seq a b) = exposed w marks a + (if nullable marks a then exposed w marks b else 0)
exposed w marks (App f args) = w f

module _ (w : Name → ℕ) (marks : Marks) where
  pub wide_by-exposed : (c : Contract) → wide_by w marks c ≡ size c + exposed w marks c
  wide_by-exposed Success = refl
  wide_by-exposed Failure = refl
  wide_by-exposed (Transmit b p c) = omega arith
  wide_by-exposed (Plus a b) = omega (arith, wide_by-exposed a, wide_by-exposed b)
  wide_by-exposed (Par a b) = omega (arith, wide_by-exposed a, wide_by-exposed b)
  wide_by-exposed (Seq a b) =
      let first = wide_by-exposed a in
      let second = wide_by-exposed b in
      elim (truth (nullable marks a)) [ inl e ↦ rw e (omega (arith, first, second)) | inr e ↦ rw e (omega (arith, first)) ]
  wide_by-exposed (App f args) = refl

  pub exposed-replace : (given : Givens) (c : Contract) → exposed w marks (replace given c) ≡ exposed w marks c
  exposed-replace given Success = refl
  exposed-replace given Failure = refl
  exposed-replace given (Transmit b p c) = refl
  exposed-replace given (Plus a b) = ap₂ (λ m n. m + n) (exposed-replace given a) (exposed-replace given b)
  exposed-replace given (Par a b) = ap₂ (λ m n. m + n) (exposed-replace given a) (exposed-replace given b)
  exposed-replace given (Seq a b) = rw (nullable-replace marks given a, exposed-replace given a, exposed-replace given b) refl
  exposed-replace given (App f args) = refl

  exposed-measure : IsMeasure 0 (exposed w marks)
  exposed-measure = record { failure = omega arith; plus = λ a b. omega arith; par = λ a b. omega arith }

  exposed-seq : (a b : Contract) → exposed w marks (seq a b) ≤ exposed w marks a + (if nullable marks a then exposed w marks b else 0)
  exposed-seq Failure b = omega arith
  exposed-seq a Failure = omega arith
  exposed-seq Success b = omega arith
  exposed-seq a Success = omega arith
  exposed-seq _ _ = omega arith

  exposed-send : (b : Binders) (p : Expression) (c : Contract) → exposed w marks (send b p c) ≡ 0
  exposed-send b p Failure = refl
  exposed-send b p _ = refl

  either_le : (b : Bool) {m n : ℕ} → m ≤ n → (if b then m else 0) ≤ (if b then n else 0)
  either_le true l = l
  either_le false l = omega arith

  module _ (book : Book) (right : AreRight book marks) where
    pub exposed-normal : (c : Contract) → exposed w marks (normal book marks c) ≤ exposed w marks c
    exposed-normal Success = omega arith
    exposed-normal Failure = omega arith
    exposed-normal (Transmit b p c) = omega (arith, exposed-send b p (normal book marks c))
    exposed-normal (Plus a b) =
        omega (arith, plus-le 0 (exposed w marks) exposed-measure (normal book marks a) (normal book marks b), exposed-normal a, exposed-normal b)
    exposed-normal (Par a b) =
        omega (arith, par-le 0 (exposed w marks) exposed-measure (normal book marks a) (normal book marks b), exposed-normal a, exposed-normal b)
    exposed-normal (Seq a b) =
        let whole = rw (nullable-normal book marks right a) at (exposed-seq (normal book marks a) (normal book marks b)) in
        omega (arith, whole, exposed-normal a, either_le (nullable marks a) (exposed-normal b))
    exposed-normal (App f args) = elim (truth (marks.hopeful f)) [ inl e ↦ rw e (omega arith) | inr e ↦ rw e (omega arith) ]

-- widths
module _ (book : Book) (marks : Marks) where
  wide_by-replace : (w : Name → ℕ) (given : Givens) (c : Contract) → wide_by w marks (replace given c) ≡ wide_by w marks c
  wide_by-replace w given c =
      omega (arith, wide_by-exposed w marks (replace given c), wide_by-exposed w marks c, size-replace given c, exposed-replace w marks given c)

  wide_at-replace : (d : ℕ) (given : Givens) (c : Contract) → wide_at d book marks (replace given c) ≡ wide_at d book marks c
  wide_at-replace zero given c = wide_by-replace (λ _. 0) given c
  wide_at-replace (suc d) given c = wide_by-replace (λ f. body_in (template_in book.templates f) (wide_at d book marks)) given c

  pub width-replace : (given : Givens) (c : Contract) → width book marks (replace given c) ≡ width book marks c
  width-replace given c = wide_at-replace (length book.templates) given c

  module _ (right : AreRight book marks) where
    wide_by-normal : (w : Name → ℕ) (c : Contract) → wide_by w marks (normal book marks c) ≤ wide_by w marks c
    wide_by-normal w c =
        omega (arith, wide_by-exposed w marks (normal book marks c), wide_by-exposed w marks c, size-normal book marks c, exposed-normal w marks book right c)

    wide_at-normal : (d : ℕ) (c : Contract) → wide_at d book marks (normal book marks c) ≤ wide_at d book marks c
    wide_at-normal zero c = wide_by-normal (λ _. 0) c
    wide_at-normal (suc d) c = wide_by-normal (λ f. body_in (template_in book.templates f) (wide_at d book marks)) c

    pub width-normal : (c : Contract) → width book marks (normal book marks c) ≤ width book marks c
    width-normal c = wide_at-normal (length book.templates) c
