-- Normal forms of typed contracts are typed.
use Rattle.std.proofs.Common.{◌≡◌, suc, [], ◌∷◌, ◌++◌, List, length, refl, sym, ◌∙◌, ap, Some, inl, inr}
use Rattle.poets_value.specs.declared.value.Name.{Name}
use Rattle.poets_expr.specs.Env.{Declared}
use Rattle.poets_expr.specs.Expression.{Expression}
use Rattle.poets_expr.specs.Fold.{fold_closed}
use Rattle.poets_syntax.specs.declared.term.Binders.{Binders}
use Rattle.poets_syntax.specs.declared.term.Param.{Param}
use Rattle.poets_syntax.specs.Contract.{Contract, Success, Failure, Transmit, Plus, Par, Seq, App}
use Rattle.poets_syntax.specs.Plain.{Book, Template}
use Rattle.poets_syntax.specs.Book.{template_in}
use Rattle.poets_syntax.specs.TypeOf.{Passes, Scope}
use Rattle.poets_syntax.specs.Typed.{types_bound, check_type, check_args}
use Rattle.poets_syntax.specs.code.Passing.{ContractPasses}
use Rattle.poets_syntax.proofs.Replacing.{truth}
use Rattle.poets_syntax.proofs.Typedness.{passed}
use Rattle.poets_syntax.proofs.TypedReplacing.{KeepsTypes, KeepsTypes-bound, HasType-fold_closed, HasType-checked, check_type-typed, application_parts, application_of_parts, two_parts, of_two_parts, transmit_parts, of_transmit_parts, binders_undeclared}
use Rattle.poets_meaning.specs.Marks.{Marks}
use Rattle.poets_calculus.specs.Normal.{send, folded, params_in, normal}
use Rattle.poets_norm.proofs.Parts.{IsOfParts, kept_by_plus, kept_by_par, kept_by_seq}

folded-length : (declared : Declared) (params : List Param) (args : List Expression) → length (folded declared params args) ≡ length args
folded-length declared [] [] = refl
folded-length declared [] (a ∷ args) = refl
folded-length declared (p ∷ params) [] = refl
folded-length declared (p ∷ params) (a ∷ args) = ap suc (folded-length declared params args)

check_args-folded : (declared : Declared) (scope : Scope) → KeepsTypes declared scope → (params : List Param) (args : List Expression) →
    check_args declared scope params args ≡ Passes tt → check_args declared scope params (folded declared params args) ≡ Passes tt
check_args-folded declared s k [] [] h = refl
check_args-folded declared s k [] (a ∷ args) h = refl
check_args-folded declared s k (p ∷ params) [] h = refl
check_args-folded declared s k (p ∷ params) (a ∷ args) h =
    let both = passed (check_type declared s p.ty a) (λ _. check_args declared s params args) tt h in
    let here = HasType-fold_closed declared s k a p.ty (HasType-checked declared s p.ty a both.1) in
    rw (check_type-typed declared s p.ty (fold_closed declared a p.ty) here) (check_args-folded declared s k params args both.2)

params_in-known : (book : Book) (f : Name) (t : Template) → template_in book.templates f ≡ Some t → params_in book f ≡ t.params
params_in-known book f t i = rw i refl

module _ (book : Book) (reports : List Name) where
  pub ContractPasses-of_parts : (scope : Scope) → IsOfParts (ContractPasses book reports scope)
  ContractPasses-of_parts s = record {
    failure = refl;
    plus = of_two_parts book reports s;
    par = of_two_parts book reports s;
    seq = of_two_parts book reports s;
    plus_parts = two_parts book reports s;
    par_parts = two_parts book reports s;
    seq_parts = two_parts book reports s;
  }

  ContractPasses-send : (scope : Scope) (b : Binders) (p : Expression) (c : Contract) → ContractPasses book reports scope (Transmit b p c) →
      ContractPasses book reports scope (send b p c)
  ContractPasses-send s b p Failure h = refl
  ContractPasses-send s b p _ h = h

  pub ContractPasses-normal : (marks : Marks) (scope : Scope) → KeepsTypes book.declared scope → (c : Contract) → ContractPasses book reports scope c →
      ContractPasses book reports scope (normal book marks c)
  ContractPasses-normal m s k Success h = refl
  ContractPasses-normal m s k Failure h = refl
  ContractPasses-normal m s k (Transmit b p c) h =
      let parts = transmit_parts book reports s b p c h in
      let below = KeepsTypes-bound book.declared b s (binders_undeclared book reports s b p c h) k in
      ContractPasses-send s b p (normal book m c)
      (of_transmit_parts book reports s b p (normal book m c) (parts.0, parts.1, ContractPasses-normal m (types_bound b ++ s) below c parts.2))
  ContractPasses-normal m s k (Plus a b) h =
      let parts = two_parts book reports s a b h in
      kept_by_plus (ContractPasses book reports s) (ContractPasses-of_parts s) (normal book m a) (normal book m b)
      (ContractPasses-normal m s k a parts.0) (ContractPasses-normal m s k b parts.1)
  ContractPasses-normal m s k (Par a b) h =
      let parts = two_parts book reports s a b h in
      kept_by_par (ContractPasses book reports s) (ContractPasses-of_parts s) (normal book m a) (normal book m b)
      (ContractPasses-normal m s k a parts.0) (ContractPasses-normal m s k b parts.1)
  ContractPasses-normal m s k (Seq a b) h =
      let parts = two_parts book reports s a b h in
      kept_by_seq (ContractPasses book reports s) (ContractPasses-of_parts s) (normal book m a) (normal book m b)
      (ContractPasses-normal m s k a parts.0) (ContractPasses-normal m s k b parts.1)
  ContractPasses-normal m s k (App f args) h = elim (truth (m.hopeful f)) [
    | inl e ↦ (let parts = application_parts book.declared s f (template_in book.templates f) args h in
        let params = parts.0.params in
        rw (e, params_in-known book f parts.0 parts.1)
        (application_of_parts book.declared s f (template_in book.templates f) parts.0 (folded book.declared params args) parts.1
        (parts.2 ∙ sym (folded-length book.declared params args)) (check_args-folded book.declared s k params args parts.3)))
    | inr e ↦ rw e refl
  ]
