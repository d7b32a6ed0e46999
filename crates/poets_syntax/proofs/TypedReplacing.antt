-- Replacing names by literals of values of their types keeps expressions and contracts typed.
use Rattle.std.proofs.Common.{◌≡◌, true, false, not, ◌&&◌, List, [], ◌∷◌, ◌++◌, length, map, refl, sym, ◌∙◌, ap, subst as along, Option, Some, None, inl, inr}
use Rattle.std.proofs.lemmas.Bool.{eq-eqb}
use Rattle.std.proofs.lemmas.List.Elements.{All-head, All-tail}
use Rattle.poets_value.specs.declared.value.Name.{Name}
use Rattle.poets_value.specs.declared.value.Ty.{Ty}
use Rattle.poets_value.specs.declared.value.Ty.TheVariants as T
use Rattle.poets_value.specs.declared.value.Value.{Value}
use Rattle.poets_value.specs.declared.value.Value.TheVariants as V
use Rattle.poets_expr.specs.Expression.{Expression, Literal, Undefined, Named, Unary, Make, Binary, If}
use Rattle.poets_expr.specs.Env.{Declared, same_name}
use Rattle.poets_expr.specs.Same.{ty_place}
use Rattle.poets_expr.specs.Val.{val}
use Rattle.poets_expr.specs.Subst.{Givens, subst, replaced, literal_of}
use Rattle.poets_expr.specs.Fold.{is_closed, is_literal, is_folded, fold_closed, HasDeclaredNames}
use Rattle.poets_expr.proofs.FoldClosed.{declared_some}
use Rattle.poets_expr.proofs.SameTrees.{both_true, name_one}
use Rattle.poets_syntax.specs.declared.term.Binders.{Binders}
use Rattle.poets_syntax.specs.declared.term.Param.{Param}
use Rattle.poets_syntax.specs.Contract.{Contract, Success, Failure, Transmit, Plus, Par, Seq, App}
use Rattle.poets_syntax.specs.Plain.{Book, Template, WrongCount}
use Rattle.poets_syntax.specs.Book.{template_in}
use Rattle.poets_syntax.specs.Replace.{binds, without, replace, AreUndeclared}
use Rattle.poets_syntax.specs.TypeOf.{Passes, ◌>>=◌, Scope, type_in, must_be, same_type, unary_type, binary_type, make_type, if_type, name_type, type_of}
use Rattle.poets_syntax.specs.Typed.{in_use, check_new, names_bound, types_bound, check_type, check_args, check_application, check_contract}
use Rattle.poets_syntax.specs.code.Passing.{HasType, ContractPasses}
use Rattle.poets_syntax.specs.OfType.{IsOfType, IsUndeclaredScope}
use Rattle.poets_syntax.proofs.Replacing.{truth, first_of_four, none_of_four, one_of_four, declared_free, replaced-free, replaced-bound, args_count}
use Rattle.poets_syntax.proofs.Givens.{HaveDeclaredNames, HaveDeclaredNames-without}
use Rattle.poets_syntax.proofs.Typedness.{passed, as_many, IsWellFormed-typed}
use Rattle.poets_syntax.proofs.Soundness.{must_be-one, IsOfType-val, HasDeclaredNames-val}

-- a name that is not bound has its type from outside, and a bound one has the same type whatever stands outside
type_in-free : (declared : Declared) (b : Binders) (scope : Scope) (x : Name) → binds b x ≡ false →
    type_in declared (types_bound b ++ scope) x ≡ type_in declared scope x
unfolding first_of_four
type_in-free declared b scope x h =
    none_of_four (same_name b.day x) (same_name b.what x) (same_name b.receiver x) (same_name b.sender x) (Some T.Day) (Some T.Resource) (Some T.Agent) (Some T.Agent) _ h

type_in-bound : (declared : Declared) (b : Binders) (scope scope' : Scope) (x : Name) → binds b x ≡ true →
    type_in declared (types_bound b ++ scope) x ≡ type_in declared (types_bound b ++ scope') x
unfolding first_of_four
type_in-bound declared b scope scope' x h =
    one_of_four (same_name b.day x) (same_name b.what x) (same_name b.receiver x) (same_name b.sender x) (Some T.Day) (Some T.Resource) (Some T.Agent) (Some T.Agent) _ _ h

same_type-self : (t : Ty) → same_type t t ≡ true
same_type-self t = eq-eqb (ty_place t) (ty_place t) refl

-- ---- expressions

module _ (declared : Declared) where
  -- declared names keep their types
  abbrev pub KeepsTypes : Scope → Type 0
  KeepsTypes scope = (x : Name) → ((declared x ≡ None) → ⊥) → type_in declared scope x ≡ declared x

  pub KeepsTypes-nil : KeepsTypes []
  KeepsTypes-nil x k = refl

  pub KeepsTypes-undeclared : (scope : Scope) → IsUndeclaredScope declared scope → KeepsTypes scope
  KeepsTypes-undeclared [] h x k = refl
  KeepsTypes-undeclared (p ∷ scope) h x k =
      let rest = KeepsTypes-undeclared scope (All-tail (λ q. declared q.0 ≡ None) p scope h) x k in
      elim (truth (same_name p.0 x)) [
        | inl e ↦ absurd (k (ap declared (sym (name_one p.0 x e)) ∙ All-head (λ q. declared q.0 ≡ None) p scope h))
        | inr e ↦ rw e rest
      ]

  pub KeepsTypes-bound : (b : Binders) (scope : Scope) → AreUndeclared declared b → KeepsTypes scope → KeepsTypes (types_bound b ++ scope)
  KeepsTypes-bound b scope f h x k = type_in-free declared b scope x (declared_free declared b x f k) ∙ h x k

  -- a closed expression has one type
  closed-type_of : (scope : Scope) → KeepsTypes scope → (e : Expression) → is_closed declared e ≡ true → type_of declared scope e ≡ type_of declared [] e
  closed-type_of s k (Literal v) h = refl
  closed-type_of s k (Undefined t) h = refl
  closed-type_of s k (Named x) h = ap (name_type x) (k x (declared_some (declared x) h))
  closed-type_of s k (Unary o a) h = rw (closed-type_of s k a h) refl
  closed-type_of s k (Make a b) h =
      let p = both_true (is_closed declared a) (is_closed declared b) h in rw (closed-type_of s k a p.0, closed-type_of s k b p.1) refl
  closed-type_of s k (Binary o a b) h =
      let p = both_true (is_closed declared a) (is_closed declared b) h in rw (closed-type_of s k a p.0, closed-type_of s k b p.1) refl
  closed-type_of s k (If a b c) h =
      let p = both_true (is_closed declared a && is_closed declared b) (is_closed declared c) h in
      let q = both_true (is_closed declared a) (is_closed declared b) p.0 in
      rw (closed-type_of s k a q.0, closed-type_of s k b q.1, closed-type_of s k c p.1) refl

  pub HasType-literal_of : (scope : Scope) → KeepsTypes scope → (o : Option Value) (t : Ty) → HasDeclaredNames declared o → IsOfType o t →
      HasType declared scope (literal_of o t) t
  HasType-literal_of s k None t d h = refl
  HasType-literal_of s k (Some (V.Int n)) t d h = ap Passes h
  HasType-literal_of s k (Some (V.Bool b)) t d h = ap Passes h
  HasType-literal_of s k (Some (V.Agent x)) t d h = rw (k x (λ e. cc), d, sym h) refl
  HasType-literal_of s k (Some (V.Kind x)) t d h = rw (k x (λ e. cc), d, sym h) refl
  HasType-literal_of s k (Some (V.Resource r)) t d h = rw (d, sym h) refl
  HasType-literal_of s k (Some (V.Day d')) t d h = ap Passes h

  pub HasType-literal_of_val : (scope : Scope) → KeepsTypes scope → (e : Expression) (t : Ty) → HasType declared [] e t →
      HasType declared scope (literal_of (val declared [] e) t) t
  HasType-literal_of_val s k e t h =
      HasType-literal_of s k (val declared [] e) t (HasDeclaredNames-val declared [] [] tt e t h) (IsOfType-val declared [] [] tt e t h)

  pub HasType-fold_closed : (scope : Scope) → KeepsTypes scope → (e : Expression) (t : Ty) → HasType declared scope e t →
      HasType declared scope (fold_closed declared e t) t
  HasType-fold_closed s k e t h = elim (truth (is_folded declared e)) [
    | inl q ↦ (let closed = (both_true (is_closed declared e) (not (is_literal declared e)) q).0 in
        rw q (HasType-literal_of_val s k e t (sym (closed-type_of s k e closed) ∙ h)))
    | inr q ↦ rw q h
  ]

  -- what each name is replaced by has the name's type
  abbrev pub Fits : Scope → Givens → Scope → Type 0
  Fits scope given scope' = (x : Name) (t : Ty) → HasType declared scope (Named x) t → HasType declared scope' (replaced given x) t

  pub HasType-subst : (scope : Scope) (given : Givens) (scope' : Scope) → Fits scope given scope' → (e : Expression) (t : Ty) → HasType declared scope e t →
      HasType declared scope' (subst given e) t
  HasType-subst s g s' f (Literal v) t h = h
  HasType-subst s g s' f (Undefined u) t h = h
  HasType-subst s g s' f (Named x) t h = f x t h
  HasType-subst s g s' f (Unary o a) t h =
      let p = passed (type_of declared s a) (unary_type o) t h in rw (HasType-subst s g s' f a p.0 p.1) p.2
  HasType-subst s g s' f (Make a b) t h =
      let p = passed (type_of declared s a) (λ x. type_of declared s b >>= λ y. make_type x y) t h in
      let q = passed (type_of declared s b) (make_type p.0) t p.2 in
      rw (HasType-subst s g s' f a p.0 p.1, HasType-subst s g s' f b q.0 q.1) q.2
  HasType-subst s g s' f (Binary o a b) t h =
      let p = passed (type_of declared s a) (λ x. type_of declared s b >>= λ y. binary_type o x y) t h in
      let q = passed (type_of declared s b) (binary_type o p.0) t p.2 in
      rw (HasType-subst s g s' f a p.0 p.1, HasType-subst s g s' f b q.0 q.1) q.2
  HasType-subst s g s' f (If a b c) t h =
      let p = passed (type_of declared s a) (λ x. type_of declared s b >>= λ y. type_of declared s c >>= λ z. if_type x y z) t h in
      let q = passed (type_of declared s b) (λ y. type_of declared s c >>= λ z. if_type p.0 y z) t p.2 in
      let r = passed (type_of declared s c) (if_type p.0 q.0) t q.2 in
      rw (HasType-subst s g s' f a p.0 p.1, HasType-subst s g s' f b q.0 q.1, HasType-subst s g s' f c r.0 r.1) r.2

  -- below binders
  literal_of-under : (b : Binders) (scope : Scope) → AreUndeclared declared b → (o : Option Value) (t : Ty) → HasDeclaredNames declared o →
      type_of declared (types_bound b ++ scope) (literal_of o t) ≡ type_of declared scope (literal_of o t)
  literal_of-under b s f None t h = refl
  literal_of-under b s f (Some (V.Int n)) t h = refl
  literal_of-under b s f (Some (V.Bool n)) t h = refl
  literal_of-under b s f (Some (V.Agent x)) t h = ap (name_type x) (type_in-free declared b s x (declared_free declared b x f (λ e. cc)))
  literal_of-under b s f (Some (V.Kind x)) t h = ap (name_type x) (type_in-free declared b s x (declared_free declared b x f (λ e. cc)))
  literal_of-under b s f (Some (V.Resource r)) t h = refl
  literal_of-under b s f (Some (V.Day d)) t h = refl

  replaced-under : (b : Binders) (scope : Scope) → AreUndeclared declared b → (given : Givens) → HaveDeclaredNames declared given → (x : Name) → binds b x ≡ false →
      type_of declared (types_bound b ++ scope) (replaced given x) ≡ type_of declared scope (replaced given x)
  replaced-under b s f [] h x k = ap (name_type x) (type_in-free declared b s x k)
  replaced-under b s f (p ∷ given) h x k =
      let rest = replaced-under b s f given h.1 x k in
      let here = literal_of-under b s f p.1.value p.1.ty h.0 in
      elim (truth (same_name p.0 x)) [ inl e ↦ rw e here | inr e ↦ rw e rest ]

  Fits-bound : (b : Binders) (scope : Scope) (given : Givens) (scope' : Scope) → AreUndeclared declared b → HaveDeclaredNames declared given →
      Fits scope given scope' → Fits (types_bound b ++ scope) (without b given) (types_bound b ++ scope')
  Fits-bound b s given s' f names fits x t h = elim (truth (binds b x)) [
    | inl k ↦ rw (replaced-bound b given x k) (along (λ o. name_type x o ≡ Passes t) (type_in-bound declared b s s' x k) h)
    | inr k ↦ rw (replaced-free b given x k)
        (replaced-under b s' f given names x k ∙ fits x t (along (λ o. name_type x o ≡ Passes t) (type_in-free declared b s x k) h))
  ]

  -- the check of a type, of arguments and of an application
  pub check_type-typed : (scope : Scope) (t : Ty) (e : Expression) → HasType declared scope e t → check_type declared scope t e ≡ Passes tt
  check_type-typed s t e h = rw (h, same_type-self t) refl

  pub HasType-checked : (scope : Scope) (t : Ty) (e : Expression) → check_type declared scope t e ≡ Passes tt → HasType declared scope e t
  HasType-checked s t e h =
      let p = passed (type_of declared s e) (must_be t) tt h in p.1 ∙ ap Passes (sym (must_be-one t p.0 p.2))

  pub check_args-subst : (scope : Scope) (given : Givens) (scope' : Scope) → Fits scope given scope' → (params : List Param) (args : List Expression) →
      check_args declared scope params args ≡ Passes tt → check_args declared scope' params (map (subst given) args) ≡ Passes tt
  check_args-subst s g s' f [] [] h = refl
  check_args-subst s g s' f [] (a ∷ args) h = refl
  check_args-subst s g s' f (p ∷ params) [] h = refl
  check_args-subst s g s' f (p ∷ params) (a ∷ args) h =
      let q = passed (check_type declared s p.ty a) (λ _. check_args declared s params args) tt h in
      rw (check_type-typed s' p.ty (subst g a) (HasType-subst s g s' f a p.ty (HasType-checked s p.ty a q.1))) (check_args-subst s g s' f params args q.2)

  pub application_parts : (scope : Scope) (f : Name) (o : Option Template) (args : List Expression) → check_application declared scope f o args ≡ Passes tt →
      (t : Template) × (o ≡ Some t) × (length t.params ≡ length args) × (check_args declared scope t.params args ≡ Passes tt)
  application_parts s f None args h = absurd cc
  application_parts s f (Some t) args h =
      let p = as_many (length t.params) (length args) (WrongCount f (length t.params) (length args)) (check_args declared s t.params args) h in
      (t, refl, p.0, p.1)

  pub application_of_parts : (scope : Scope) (f : Name) (o : Option Template) (t : Template) (args : List Expression) → o ≡ Some t →
      length t.params ≡ length args → check_args declared scope t.params args ≡ Passes tt → check_application declared scope f o args ≡ Passes tt
  application_of_parts s f o t args i l h = rw (i, eq-eqb (length t.params) (length args) l) h

-- ---- contracts

module _ (book : Book) (reports : List Name) where
  pub two_parts : (scope : Scope) (a b : Contract) → (check_contract book reports scope a >>= λ _. check_contract book reports scope b) ≡ Passes tt →
      ContractPasses book reports scope a × ContractPasses book reports scope b
  two_parts s a b h = let p = passed (check_contract book reports s a) (λ _. check_contract book reports s b) tt h in (p.1, p.2)

  pub of_two_parts : (scope : Scope) (a b : Contract) → ContractPasses book reports scope a → ContractPasses book reports scope b →
      (check_contract book reports scope a >>= λ _. check_contract book reports scope b) ≡ Passes tt
  of_two_parts s a b h k = rw (h, k) refl

  -- the three demands on a transmit
  abbrev pub TransmitParts : Scope → Binders → Expression → Contract → Type 0
  TransmitParts scope b p c = (check_new (in_use book reports) [] (names_bound b) ≡ Passes tt)
      × HasType book.declared (types_bound b ++ scope) p T.Bool × ContractPasses book reports (types_bound b ++ scope) c

  pub transmit_parts : (scope : Scope) (b : Binders) (p : Expression) (c : Contract) → ContractPasses book reports scope (Transmit b p c) → TransmitParts scope b p c
  transmit_parts s b p c h =
      let binders = passed (check_new (in_use book reports) [] (names_bound b))
      (λ _. check_type book.declared (types_bound b ++ s) T.Bool p >>= λ _. check_contract book reports (types_bound b ++ s) c) tt h in
      let predicate = passed (check_type book.declared (types_bound b ++ s) T.Bool p) (λ _. check_contract book reports (types_bound b ++ s) c) tt binders.2 in
      (binders.1, HasType-checked book.declared (types_bound b ++ s) T.Bool p predicate.1, predicate.2)

  pub of_transmit_parts : (scope : Scope) (b : Binders) (p : Expression) (c : Contract) → TransmitParts scope b p c → ContractPasses book reports scope (Transmit b p c)
  of_transmit_parts s b p c h = rw (h.0, check_type-typed book.declared (types_bound b ++ s) T.Bool p h.1, h.2) refl

  pub binders_undeclared : (scope : Scope) (b : Binders) (p : Expression) (c : Contract) → ContractPasses book reports scope (Transmit b p c) → AreUndeclared book.declared b
  binders_undeclared s b p c h = (IsWellFormed-typed book reports s (Transmit b p c) h).0

  pub ContractPasses-replace : (scope : Scope) (given : Givens) (scope' : Scope) → HaveDeclaredNames book.declared given → Fits book.declared scope given scope' →
      (c : Contract) → ContractPasses book reports scope c → ContractPasses book reports scope' (replace given c)
  ContractPasses-replace s g s' names f Success h = refl
  ContractPasses-replace s g s' names f Failure h = refl
  ContractPasses-replace s g s' names f (Transmit b p c) h =
      let parts = transmit_parts s b p c h in
      let fits = Fits-bound book.declared b s g s' (binders_undeclared s b p c h) names f in
      of_transmit_parts s' b (subst (without b g) p) (replace (without b g) c) (
        parts.0,
        HasType-subst book.declared (types_bound b ++ s) (without b g) (types_bound b ++ s') fits p T.Bool parts.1,
        ContractPasses-replace (types_bound b ++ s) (without b g) (types_bound b ++ s') (HaveDeclaredNames-without book.declared b g names) fits c parts.2,
      )
  ContractPasses-replace s g s' names f (Plus a b) h =
      let parts = two_parts s a b h in
      of_two_parts s' (replace g a) (replace g b) (ContractPasses-replace s g s' names f a parts.0) (ContractPasses-replace s g s' names f b parts.1)
  ContractPasses-replace s g s' names f (Par a b) h =
      let parts = two_parts s a b h in
      of_two_parts s' (replace g a) (replace g b) (ContractPasses-replace s g s' names f a parts.0) (ContractPasses-replace s g s' names f b parts.1)
  ContractPasses-replace s g s' names f (Seq a b) h =
      let parts = two_parts s a b h in
      of_two_parts s' (replace g a) (replace g b) (ContractPasses-replace s g s' names f a parts.0) (ContractPasses-replace s g s' names f b parts.1)
  ContractPasses-replace s g s' names f (App n args) h =
      let parts = application_parts book.declared s n (template_in book.templates n) args h in
      application_of_parts book.declared s' n (template_in book.templates n) parts.0 (map (subst g) args) parts.1 (parts.2 ∙ sym (args_count g args))
      (check_args-subst book.declared s g s' f parts.0.params args parts.3)
