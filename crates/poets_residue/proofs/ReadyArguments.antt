-- In typed normal forms the arguments of the applications that stand ready are literals.
use Rattle.std.proofs.Common.{◌≡◌, ℕ, zero, suc, Bool, true, false, not, is_some, arith, List, [], ◌∷◌, ◌++◌, length, refl, sym, ap, subst, Option, Some, None, inl, inr, if◌then◌else◌}
use Rattle.std.specs.Prelude.{sum_by}
use Rattle.std.specs.List.{All}
use Rattle.std.proofs.lemmas.List.Elements.{All-nil, All-cons, All-head, All-tail}
use Rattle.std.proofs.lemmas.List.Sums.{sum_by-cons}
use Rattle.poets_value.specs.declared.value.Name.{Name}
use Rattle.poets_value.specs.declared.value.Ty.{Ty}
use Rattle.poets_value.specs.declared.value.Value.{Value}
use Rattle.poets_value.specs.declared.value.Value.TheVariants as V
use Rattle.poets_expr.specs.Env.{Declared}
use Rattle.poets_expr.specs.Expression.{Expression, Literal, Undefined, Named, Unary, Make, Binary, If}
use Rattle.poets_expr.specs.Val.{val}
use Rattle.poets_expr.specs.Subst.{literal_of}
use Rattle.poets_expr.specs.Fold.{is_closed, is_literal, is_folded, fold_closed, HasDeclaredNames}
use Rattle.poets_syntax.specs.declared.term.Param.{Param}
use Rattle.poets_syntax.specs.Contract.{Contract, Success, Failure, Transmit, Plus, Par, Seq, App}
use Rattle.poets_syntax.specs.Plain.{Book, Template}
use Rattle.poets_syntax.specs.Book.{template_in}
use Rattle.poets_syntax.specs.Replace.{replace}
use Rattle.poets_syntax.specs.Givens.{argument_givens}
use Rattle.poets_syntax.specs.TypeOf.{Passes, name_type, unary_type, binary_type, make_type, if_type, ◌>>=◌, type_of}
use Rattle.poets_syntax.specs.Typed.{check_type, check_args}
use Rattle.poets_syntax.specs.code.Passing.{HasType, ContractPasses, BookPasses}
use Rattle.poets_syntax.proofs.Replacing.{truth}
use Rattle.poets_syntax.proofs.Soundness.{HasDeclaredNames-val}
use Rattle.poets_syntax.proofs.TypedReplacing.{HasType-checked, application_parts, two_parts}
use Rattle.poets_syntax.proofs.Typedness.{passed}
use Rattle.poets_meaning.specs.Arguments.{arguments}
use Rattle.poets_meaning.specs.Marks.{Marks, nullable}
use Rattle.poets_meaning.specs.Width.{body_in}
use Rattle.poets_calculus.specs.Normal.{folded, params_in, app, normal}
use Rattle.poets_calculus.specs.Residual.{body_of}
use Rattle.poets_norm.specs.Questions.{operated}
use Rattle.poets_norm.proofs.NormalForms.{IsBuilt, built-normal, built_of_normal}
use Rattle.poets_norm.proofs.Parts.{FailureOr}
use Rattle.poets_residue.specs.Once.{ready_by, ready_at, asked_of, IsAmong}
use Rattle.poets_residue.proofs.Kept.{of_body}
use Rattle.poets_residue.proofs.Ready.{among_one, among_two, ready_at-failure}
use Rattle.poets_residue.proofs.TypedResiduals.{ContractPasses-body_of}

-- ---- expressions

module _ (declared : Declared) where
  -- each is a literal or a declared name
  abbrev pub AreLiterals : List Expression → Type 0
  AreLiterals = All (λ a. is_literal declared a ≡ true)

  known : (x : Name) (o : Option Ty) (t : Ty) → name_type x o ≡ Passes t → is_some o ≡ true
  known x None t h = absurd cc
  known x (Some u) t h = refl

  -- what has a type in no scope is closed
  closed-typed : (e : Expression) (t : Ty) → HasType declared [] e t → is_closed declared e ≡ true
  closed-typed (Literal v) t h = refl
  closed-typed (Undefined u) t h = refl
  closed-typed (Named x) t h = known x (declared x) t h
  closed-typed (Unary o a) t h =
      let p = passed (type_of declared [] a) (unary_type o) t h in closed-typed a p.0 p.1
  closed-typed (Make a b) t h =
      let p = passed (type_of declared [] a) (λ x. type_of declared [] b >>= λ y. make_type x y) t h in
      let q = passed (type_of declared [] b) (make_type p.0) t p.2 in
      rw (closed-typed a p.0 p.1) (closed-typed b q.0 q.1)
  closed-typed (Binary o a b) t h =
      let p = passed (type_of declared [] a) (λ x. type_of declared [] b >>= λ y. binary_type o x y) t h in
      let q = passed (type_of declared [] b) (binary_type o p.0) t p.2 in
      rw (closed-typed a p.0 p.1) (closed-typed b q.0 q.1)
  closed-typed (If a b c) t h =
      let p = passed (type_of declared [] a) (λ x. type_of declared [] b >>= λ y. type_of declared [] c >>= λ z. if_type x y z) t h in
      let q = passed (type_of declared [] b) (λ y. type_of declared [] c >>= λ z. if_type p.0 y z) t p.2 in
      let r = passed (type_of declared [] c) (if_type p.0 q.0) t q.2 in
      rw (closed-typed a p.0 p.1, closed-typed b q.0 q.1) (closed-typed c r.0 r.1)

  is_literal-value : (o : Option Value) (t : Ty) → HasDeclaredNames declared o → is_literal declared (literal_of o t) ≡ true
  is_literal-value None t h = refl
  is_literal-value (Some (V.Int n)) t h = refl
  is_literal-value (Some (V.Bool b)) t h = refl
  is_literal-value (Some (V.Agent x)) t h = ap is_some h
  is_literal-value (Some (V.Kind x)) t h = ap is_some h
  is_literal-value (Some (V.Resource r)) t h = refl
  is_literal-value (Some (V.Day d)) t h = refl

  literal_already : (b : Bool) → not b ≡ false → b ≡ true
  literal_already true h = refl
  literal_already false h = absurd cc

  -- folded it is a literal
  is_literal-folded : (e : Expression) (t : Ty) → HasType declared [] e t → is_literal declared (fold_closed declared e t) ≡ true
  is_literal-folded e t h = elim (truth (is_folded declared e)) [
    | inl q ↦ rw q (is_literal-value (val declared [] e) t (HasDeclaredNames-val declared [] [] tt e t h))
    | inr q ↦ rw q (literal_already (is_literal declared e) (rw (closed-typed e t h) at q))
  ]

  AreLiterals-folded : (params : List Param) (args : List Expression) → length params ≡ length args → check_args declared [] params args ≡ Passes tt →
      AreLiterals (folded declared params args)
  AreLiterals-folded [] [] l h = All-nil (λ a. is_literal declared a ≡ true)
  AreLiterals-folded [] (a ∷ args) l h = absurd cc
  AreLiterals-folded (p ∷ params) [] l h = absurd cc
  AreLiterals-folded (p ∷ params) (a ∷ args) l h =
      let both = passed (check_type declared [] p.ty a) (λ _. check_args declared [] params args) tt h in
      let rest : length params ≡ length args = cc in
      All-cons (λ b. is_literal declared b ≡ true) (fold_closed declared a p.ty) (folded declared params args)
      (is_literal-folded a p.ty (HasType-checked declared [] p.ty a both.1)) (AreLiterals-folded params args rest both.2)

  -- a literal has no operator
  operated-literal : (e : Expression) → is_literal declared e ≡ true → operated e ≡ 0
  operated-literal (Literal v) h = refl
  operated-literal (Undefined t) h = refl
  operated-literal (Named x) h = refl
  operated-literal (Unary o a) h = absurd cc
  operated-literal (Make a b) h = absurd cc
  operated-literal (Binary o a b) h = absurd cc
  operated-literal (If a b c) h = absurd cc

  pub operated-literals : (args : List Expression) → AreLiterals args → sum_by operated args ≡ 0
  operated-literals [] h = refl
  operated-literals (a ∷ args) h =
      let here = operated-literal a (All-head (λ b. is_literal declared b ≡ true) a args h) in
      let rest = operated-literals args (All-tail (λ b. is_literal declared b ≡ true) a args h) in
      omega (arith, sum_by-cons operated a args, here, rest)

-- so an application of them asks what its body's arguments ask
pub asked_of-literals : (book : Book) (f : Name) (args : List Expression) → AreLiterals book.declared args →
    asked_of book (App f args) ≡ body_in (template_in book.templates f) arguments
asked_of-literals book f args h = let none = operated-literals book.declared args h in omega (arith, none)

-- ---- contracts

module _ (book : Book) (reports : List Name) (marks : Marks) where
  same_arguments : (f g : Name) (xs ys : List Expression) → App f xs ≡ App g ys → xs ≡ ys
  same_arguments f g xs ys e = cc

  -- the builder of an application folds its arguments
  arguments_built : (f : Name) (args : List Expression) → app book marks f args ≡ App f args → folded book.declared (params_in book f) args ≡ args
  arguments_built f args h = elim (truth (marks.hopeful f)) [
    | inl e ↦ same_arguments f f (folded book.declared (params_in book f) args) args (rw e at h)
    | inr e ↦ (let none : Failure ≡ App f args = rw e at h in absurd cc)
  ]

  params_known : (f : Name) (t : Template) → template_in book.templates f ≡ Some t → params_in book f ≡ t.params
  params_known f t q = rw q refl

  AreLiterals-built : (f : Name) (args : List Expression) → ContractPasses book reports [] (App f args) → app book marks f args ≡ App f args →
      AreLiterals book.declared args
  AreLiterals-built f args h built =
      let parts = application_parts book.declared [] f (template_in book.templates f) args h in
      let same : folded book.declared parts.0.params args ≡ args = rw (params_known f parts.0 parts.1) at (arguments_built f args built) in
      subst (AreLiterals book.declared) same (AreLiterals-folded book.declared parts.0.params args parts.2 parts.3)

  -- each application in the list is one of literals
  abbrev ApplyLiterals : List Contract → Type 0
  ApplyLiterals cs = (g : Name) (xs : List Expression) → IsAmong (App g xs) cs → AreLiterals book.declared xs

  ApplyLiterals-both : (cs ds : List Contract) → ApplyLiterals cs → ApplyLiterals ds → ApplyLiterals (cs ++ ds)
  ApplyLiterals-both cs ds h k g xs m = elim (among_two (App g xs) cs ds m) [ inl n ↦ h g xs n | inr n ↦ k g xs n ]

  literals_by : (unfolded : Name → List Expression → List Contract) →
      ((f : Name) (args : List Expression) → ContractPasses book reports [] (App f args) → ApplyLiterals (unfolded f args)) →
      (c : Contract) → ContractPasses book reports [] c → IsBuilt book marks c → ApplyLiterals (ready_by unfolded marks c)
  literals_by u rest Success h k = λ g xs m. absurd cc
  literals_by u rest Failure h k = λ g xs m. absurd cc
  literals_by u rest (Transmit b p c) h k = λ g xs m. elim (among_one (App g xs) (Transmit b p c) [] m) [
    | inl e ↦ absurd cc
    | inr n ↦ absurd cc
  ]
  literals_by u rest (Plus a b) h k =
      let parts = two_parts book reports [] a b h in
      ApplyLiterals-both (ready_by u marks a) (ready_by u marks b) (literals_by u rest a parts.0 k.0) (literals_by u rest b parts.1 k.1)
  literals_by u rest (Par a b) h k =
      let parts = two_parts book reports [] a b h in
      ApplyLiterals-both (ready_by u marks a) (ready_by u marks b) (literals_by u rest a parts.0 k.0) (literals_by u rest b parts.1 k.1)
  literals_by u rest (Seq a b) h k =
      let parts = two_parts book reports [] a b h in
      ApplyLiterals-both (ready_by u marks a) (if nullable marks a then ready_by u marks b else []) (literals_by u rest a parts.0 k.0)
      (elim (truth (nullable marks a)) [
        | inl e ↦ rw e (literals_by u rest b parts.1 k.1)
        | inr e ↦ rw e (λ g xs m. absurd cc)
      ])
  literals_by u rest (App f args) h k = λ g xs m. elim (among_one (App g xs) (App f args) (u f args) m) [
    | inl e ↦ subst (AreLiterals book.declared) (sym (same_arguments g f xs args e)) (AreLiterals-built f args h k)
    | inr n ↦ rest f args h g xs n
  ]

  module _ (typed : BookPasses book reports) where
    literals_of_failure : (d : ℕ) (c : Contract) → c ≡ Failure → ApplyLiterals (ready_at d book marks c)
    literals_of_failure d c e g xs m =
        let none : IsAmong (App g xs) [] = rw (e, ready_at-failure book marks d) at m in absurd cc

    literals_at : (d : ℕ) (c : Contract) → ContractPasses book reports [] c → FailureOr (IsBuilt book marks) c → ApplyLiterals (ready_at d book marks c)
    literals_at d c h (inl e) = literals_of_failure d c e
    literals_at zero c h (inr k) = literals_by (λ _ _. []) (λ f args i g xs m. absurd cc) c h k
    literals_at (suc d) c h (inr k) =
        literals_by (λ f args. ready_at d book marks (body_of book marks (template_in book.templates f) args))
        (λ f args i. literals_at d (body_of book marks (template_in book.templates f) args) (ContractPasses-body_of book reports marks typed f args i)
        (of_body book marks (FailureOr (IsBuilt book marks)) (inl refl) (template_in book.templates f) args
        (λ t q. built-normal book marks (replace (argument_givens book.declared t.params args) t.body)))) c h k

    -- the arguments of the applications that stand ready in a typed normal form are literals
    pub ready_literals : (d : ℕ) (c : Contract) → ContractPasses book reports [] c → normal book marks c ≡ c →
        (f : Name) (args : List Expression) → IsAmong (App f args) (ready_at d book marks c) → AreLiterals book.declared args
    ready_literals d c h n = literals_at d c h (built_of_normal book marks c n)
