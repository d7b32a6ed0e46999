-- Replacing names and normal forms expose no further application.
use Rattle.std.proofs.Common.{◌≡◌, suc, true, false, ◌||◌, ◌&&◌, List, [], ◌∷◌, length, map, refl, sym, ◌∙◌, ap, ap₂, inl, inr, Some}
use Rattle.poets_value.specs.declared.value.Name.{Name}
use Rattle.poets_expr.specs.Env.{Declared}
use Rattle.poets_expr.specs.Expression.{Expression}
use Rattle.poets_expr.specs.Subst.{Givens}
use Rattle.poets_expr.proofs.SameTrees.{both_true}
use Rattle.poets_syntax.specs.declared.term.Binders.{Binders}
use Rattle.poets_syntax.specs.declared.term.Param.{Param}
use Rattle.poets_syntax.specs.Contract.{Contract, Success, Failure, Transmit, Plus, Par, Seq, App}
use Rattle.poets_syntax.specs.Plain.{Book, Template}
use Rattle.poets_syntax.specs.Replace.{replace}
use Rattle.poets_syntax.specs.Givens.{argument_givens}
use Rattle.poets_syntax.proofs.Replacing.{truth, args_count}
use Rattle.poets_meaning.specs.Marks.{Marks, nullable}
use Rattle.poets_meaning.specs.Exposed.{EachExposed}
use Rattle.poets_meaning.proofs.Nullability.{or_first, or_second, and_both, either_true}
use Rattle.poets_calculus.specs.Normal.{plus, par, seq, send, folded, params_in, normal}
use Rattle.poets_calculus.specs.Residual.{body_of}
use Rattle.poets_calculus.proofs.Choosing.{plus-keeps}
use Rattle.poets_calculus.proofs.AlikeMeasures.{Alike-nullable}
use Rattle.poets_calculus.proofs.Regrouping.{Alike-regrouped, regrouped-keeps}

pub length-folded : (declared : Declared) (params : List Param) (args : List Expression) → length (folded declared params args) ≡ length args
length-folded declared [] [] = refl
length-folded declared [] (a ∷ args) = refl
length-folded declared (p ∷ params) [] = refl
length-folded declared (p ∷ params) (a ∷ args) = ap suc (length-folded declared params args)

module _ (marks : Marks) where
  -- ---- nullability

  nullable-replace : (given : Givens) (c : Contract) → nullable marks (replace given c) ≡ nullable marks c
  nullable-replace given Success = refl
  nullable-replace given Failure = refl
  nullable-replace given (Transmit b p c) = refl
  nullable-replace given (Plus a b) = ap₂ (λ x y. x || y) (nullable-replace given a) (nullable-replace given b)
  nullable-replace given (Par a b) = ap₂ (λ x y. x && y) (nullable-replace given a) (nullable-replace given b)
  nullable-replace given (Seq a b) = ap₂ (λ x y. x && y) (nullable-replace given a) (nullable-replace given b)
  nullable-replace given (App f args) = refl

  nullable_plus : (a b : Contract) → nullable marks (plus a b) ≡ true → (nullable marks a || nullable marks b) ≡ true
  nullable_plus a b = plus-keeps Says (record {
    failure = λ e. absurd cc;
    plus = λ c d h k e. elim (either_true (nullable marks c) (nullable marks d) e) [ inl i ↦ h i | inr i ↦ k i ];
    plus_parts = λ c d h. (λ e. h (or_first (nullable marks c) (nullable marks d) e), λ e. h (or_second (nullable marks c) (nullable marks d) e));
  }) a b (λ e. or_first (nullable marks a) (nullable marks b) e) (λ e. or_second (nullable marks a) (nullable marks b) e)
    where
      Says : Contract → Type 0
      Says c = nullable marks c ≡ true → (nullable marks a || nullable marks b) ≡ true

  nullable_par : (a b : Contract) → nullable marks (par a b) ≡ true → (nullable marks a ≡ true) × (nullable marks b ≡ true)
  nullable_par Failure b e = absurd cc
  nullable_par a Failure e = absurd cc
  nullable_par Success b e = (refl, e)
  nullable_par a Success e = (e, refl)
  nullable_par a b e = both_true (nullable marks a) (nullable marks b) (Alike-nullable marks (Alike-regrouped (Par a b)) ∙ e)

  nullable_seq : (a b : Contract) → nullable marks (seq a b) ≡ true → (nullable marks a ≡ true) × (nullable marks b ≡ true)
  nullable_seq Failure b e = absurd cc
  nullable_seq a Failure e = absurd cc
  nullable_seq Success b e = (refl, e)
  nullable_seq a Success e = (e, refl)
  nullable_seq a b e = both_true (nullable marks a) (nullable marks b) e

  nullable_send : (b : Binders) (p : Expression) (c : Contract) → nullable marks (send b p c) ≡ true → ⊥
  nullable_send b p Failure e = cc
  nullable_send b p c e = cc

  -- a contract is nullable where its normal form is
  nullable_normal : (book : Book) (c : Contract) → nullable marks (normal book marks c) ≡ true → nullable marks c ≡ true
  nullable_normal book Success e = e
  nullable_normal book Failure e = e
  nullable_normal book (Transmit b p c) e = absurd (nullable_send b p (normal book marks c) e)
  nullable_normal book (Plus a b) e =
      elim (either_true (nullable marks (normal book marks a)) (nullable marks (normal book marks b)) (nullable_plus (normal book marks a) (normal book marks b) e)) [
        | inl k ↦ or_first (nullable marks a) (nullable marks b) (nullable_normal book a k)
        | inr k ↦ or_second (nullable marks a) (nullable marks b) (nullable_normal book b k)
      ]
  nullable_normal book (Par a b) e =
      let k = nullable_par (normal book marks a) (normal book marks b) e in
      and_both (nullable marks a) (nullable marks b) (nullable_normal book a k.0) (nullable_normal book b k.1)
  nullable_normal book (Seq a b) e =
      let k = nullable_seq (normal book marks a) (normal book marks b) e in
      and_both (nullable marks a) (nullable marks b) (nullable_normal book a k.0) (nullable_normal book b k.1)
  nullable_normal book (App f args) e = elim (truth (marks.hopeful f)) [
    | inl k ↦ (rw k at e)
    | inr k ↦ (let l : false ≡ true = rw k at e in absurd cc)
  ]

  -- ---- a fact of exposed applications that looks at the number of arguments alone

  module _ (Is : Name → List Expression → Type 0) (same : (f : Name) (args args' : List Expression) → length args ≡ length args' → Is f args → Is f args') where
    EachExposed-replace : (given : Givens) (c : Contract) → EachExposed Is marks c → EachExposed Is marks (replace given c)
    EachExposed-replace given Success h = tt
    EachExposed-replace given Failure h = tt
    EachExposed-replace given (Transmit b p c) h = tt
    EachExposed-replace given (Plus a b) h = (EachExposed-replace given a h.0, EachExposed-replace given b h.1)
    EachExposed-replace given (Par a b) h = (EachExposed-replace given a h.0, EachExposed-replace given b h.1)
    EachExposed-replace given (Seq a b) h = (EachExposed-replace given a h.0, λ e. EachExposed-replace given b (h.1 (sym (nullable-replace given a) ∙ e)))
    EachExposed-replace given (App f args) h = same f args (map _ args) (sym (args_count given args)) h

    exposed_par : (a b : Contract) → EachExposed Is marks a → EachExposed Is marks b → EachExposed Is marks (par a b)
    exposed_par Failure b h k = tt
    exposed_par a Failure h k = tt
    exposed_par Success b h k = k
    exposed_par a Success h k = h
    exposed_par a b h k = regrouped-keeps (EachExposed Is marks) (record { join = λ c d l m. (l, m); sides = λ c d l. l }) (Par a b) (h, k)

    exposed_seq : (a b : Contract) → EachExposed Is marks a → (nullable marks a ≡ true → EachExposed Is marks b) → EachExposed Is marks (seq a b)
    exposed_seq Failure b h k = tt
    exposed_seq a Failure h k = tt
    exposed_seq Success b h k = k refl
    exposed_seq a Success h k = h
    exposed_seq _ _ h k = (h, k)

    exposed_send : (b : Binders) (p : Expression) (c : Contract) → EachExposed Is marks (send b p c)
    exposed_send b p Failure = tt
    exposed_send b p _ = tt

    EachExposed-normal : (book : Book) (c : Contract) → EachExposed Is marks c → EachExposed Is marks (normal book marks c)
    EachExposed-normal book Success h = tt
    EachExposed-normal book Failure h = tt
    EachExposed-normal book (Transmit b p c) h = exposed_send b p (normal book marks c)
    EachExposed-normal book (Plus a b) h =
        plus-keeps (EachExposed Is marks) (record { failure = tt; plus = λ c d k l. (k, l); plus_parts = λ c d k. k }) (normal book marks a) (normal book marks b)
        (EachExposed-normal book a h.0) (EachExposed-normal book b h.1)
    EachExposed-normal book (Par a b) h = exposed_par (normal book marks a) (normal book marks b) (EachExposed-normal book a h.0) (EachExposed-normal book b h.1)
    EachExposed-normal book (Seq a b) h =
        exposed_seq (normal book marks a) (normal book marks b) (EachExposed-normal book a h.0) (λ e. EachExposed-normal book b (h.1 (nullable_normal book a e)))
    EachExposed-normal book (App f args) h = elim (truth (marks.hopeful f)) [
      | inl e ↦ rw e (same f args (folded book.declared (params_in book f) args) (sym (length-folded book.declared (params_in book f) args)) h)
      | inr e ↦ rw e tt
    ]

-- an unfolded body exposes what the body as written does
pub EachExposed-body : (book : Book) (marks : Marks) (Is : Name → List Expression → Type 0) →
    ((f : Name) (args args' : List Expression) → length args ≡ length args' → Is f args → Is f args') →
    (t : Template) (args : List Expression) → EachExposed Is marks t.body → EachExposed Is marks (body_of book marks (Some t) args)
EachExposed-body book marks Is same t args h =
    EachExposed-normal marks Is same book (replace (argument_givens book.declared t.params args) t.body)
    (EachExposed-replace marks Is same (argument_givens book.declared t.params args) t.body h)
