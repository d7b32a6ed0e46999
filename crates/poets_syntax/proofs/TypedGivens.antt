-- The parts of an event have the types of the binders, and the values of typed arguments those of the parameters.
use Rattle.std.proofs.Common.{◌≡◌, Bool, true, false, ◌||◌, List, [], ◌∷◌, ◌++◌, length, map, refl, sym, ◌∙◌, ap, subst as along, Some, None, inl, inr, if◌then◌else◌}
use Rattle.std.proofs.lemmas.Bool.{eq-eqb}
use Rattle.std.proofs.lemmas.List.{append_assoc}
use Rattle.std.proofs.lemmas.List.Elements.{All-nil}
use Rattle.poets_value.specs.declared.value.Name.{Name}
use Rattle.poets_value.specs.declared.event.Event.{Event}
use Rattle.poets_value.specs.declared.value.Ty.{Ty}
use Rattle.poets_expr.specs.declared.expr.Given.{Given}
use Rattle.poets_expr.specs.Expression.{Expression}
use Rattle.poets_expr.specs.Env.{Declared, same_name}
use Rattle.poets_expr.specs.Val.{val}
use Rattle.poets_expr.specs.Subst.{Givens, replaced, literal, subst}
use Rattle.poets_expr.proofs.SameTrees.{name_one}
use Rattle.poets_syntax.specs.declared.term.Binders.{Binders}
use Rattle.poets_syntax.specs.declared.term.Param.{Param}
use Rattle.poets_syntax.specs.Contract.{Contract, Transmit, App}
use Rattle.poets_syntax.specs.Plain.{Book, Template, Twice}
use Rattle.poets_syntax.specs.Book.{template_in}
use Rattle.poets_syntax.specs.Replace.{replace}
use Rattle.poets_syntax.specs.WellFormed.{IsDeclaredEvent}
use Rattle.poets_syntax.specs.Givens.{event_givens, argument_givens}
use Rattle.poets_syntax.specs.TypeOf.{Verdict, Passes, Fails, Scope, type_in, name_type}
use Rattle.poets_syntax.specs.Typed.{is_among, in_use, check_new, scope_of, check_type, check_args, check_application}
use Rattle.poets_syntax.specs.code.Passing.{HasType, ContractPasses, BookPasses}
use Rattle.poets_syntax.specs.OfType.{AreOfTypes, types_given, IsUndeclaredScope}
use Rattle.poets_syntax.proofs.Replacing.{truth}
use Rattle.poets_syntax.proofs.Givens.{HaveDeclaredNames, HaveDeclaredNames-arguments}
use Rattle.poets_syntax.proofs.Typedness.{passed, IsWellFormed-typed}
use Rattle.poets_syntax.proofs.TypedReplacing.{KeepsTypes, KeepsTypes-nil, HasType-literal_of, HasType-literal_of_val, HasType-checked, KeepsTypes-undeclared, Fits, HasType-subst, application_parts, transmit_parts, ContractPasses-replace}

-- names that are checked one after the other are none of those before them
unfailed : (used among : Bool) (x : Name) (next : Verdict (Unit {0})) → (if used || among then Fails (Twice x) else next) ≡ Passes tt → (among ≡ false) × (next ≡ Passes tt)
unfailed true among x next h = absurd cc
unfailed false true x next h = absurd cc
unfailed false false x next h = (refl, h)

pub neither : (p q : Bool) → (p || q) ≡ false → (p ≡ false) × (q ≡ false)
neither true q e = absurd cc
neither false q e = (refl, e)

not_other : (x y : Name) → same_name x y ≡ false → same_name y x ≡ false
not_other x y h = elim (truth (same_name y x)) [
  | inl e ↦ (let k : same_name x y ≡ true = eq-eqb x.id y.id (ap (λ z. z.id) (sym (name_one y x e))) in absurd cc)
  | inr e ↦ e
]

is_among-new : (used : Name → Bool) (earlier names : List Name) (x : Name) → is_among earlier x ≡ true → check_new used earlier names ≡ Passes tt →
    is_among names x ≡ false
is_among-new used earlier [] x i h = refl
is_among-new used earlier (y ∷ names) x i h =
    let p = unfailed (used y) (is_among earlier y) y (check_new used (y ∷ earlier) names) h in
    elim (truth (same_name x y)) [
      | inl e ↦ (let j : is_among earlier y ≡ true = ap (is_among earlier) (sym (name_one x y e)) ∙ i in absurd cc)
      | inr e ↦ rw e (is_among-new used (y ∷ earlier) names x (rw e i) p.1)
    ]

-- names that are replaced by values of their types
module _ (declared : Declared) where
  pub HaveDeclaredNames-typed : (given : Givens) → AreOfTypes declared given → HaveDeclaredNames declared given
  HaveDeclaredNames-typed [] h = tt
  HaveDeclaredNames-typed (p ∷ given) h = (h.0, HaveDeclaredNames-typed given h.2)

  pub Fits-given : (given : Givens) (scope : Scope) → KeepsTypes declared scope → AreOfTypes declared given →
      Fits declared (types_given given ++ scope) given scope
  Fits-given [] s k h x t i = i
  Fits-given (p ∷ given) s k h x t i =
      let rest = Fits-given given s k h.2 x t in
      elim (truth (same_name p.0 x)) [
        | inl e ↦ (let j : Passes p.1.ty ≡ Passes t = rw e at i in
            rw e (HasType-literal_of declared s k p.1.value p.1.ty h.0 h.1 ∙ j))
        | inr e ↦ (let j : name_type x (type_in declared (types_given given ++ s) x) ≡ Passes t = rw e at i in rw e (rest j))
      ]

  pub HasType-given : (given : Givens) (scope : Scope) (e : Expression) (t : Ty) → AreOfTypes declared given → IsUndeclaredScope declared scope →
      HasType declared (types_given given ++ scope) e t → HasType declared scope (subst given e) t
  HasType-given given s e t h k =
      HasType-subst declared (types_given given ++ s) given s (Fits-given given s (KeepsTypes-undeclared declared s k) h) e t

  pub AreOfTypes-event : (b : Binders) (e : Event) → IsDeclaredEvent declared e → AreOfTypes declared (event_givens b e)
  AreOfTypes-event b e h = (tt, refl, (h.kind, refl, (h.receiver, refl, (h.sender, refl, tt))))

  -- a name that is that of no parameter is replaced by none of their values, and one that is not replaced last by no last value
  replaced-none : (params : List Param) (args : List Expression) (more : Givens) (x : Name) → is_among (map (λ p. p.name) params) x ≡ false →
      replaced (argument_givens declared params args ++ more) x ≡ replaced more x
  replaced-none [] [] more x h = refl
  replaced-none [] (a ∷ args) more x h = refl
  replaced-none (p ∷ params) [] more x h = refl
  replaced-none (p ∷ params) (a ∷ args) more x h =
      let last : Name × Given = (p.name, record { value = val declared [] a; ty = p.ty }) in
      let k = neither (same_name x p.name) (is_among (map (λ q. q.name) params) x) h in
      let other : same_name p.name x ≡ false = not_other x p.name k.0 in
      ap (λ given. replaced given x) (append_assoc (argument_givens declared params args) (last ∷ []) more)
      ∙ replaced-none params args (last ∷ more) x k.1 ∙ rw other refl

  replaced-other : (given : Givens) (last : Name × Given) (x : Name) → same_name last.0 x ≡ false → replaced (given ++ last ∷ []) x ≡ replaced given x
  replaced-other [] last x h = rw h refl
  replaced-other (p ∷ given) last x h =
      let rest = replaced-other given last x h in
      elim (truth (same_name p.0 x)) [ inl e ↦ rw e refl | inr e ↦ rw e rest ]

  -- the values of typed arguments
  Fits-arguments : (used : Name → Bool) (earlier : List Name) (params : List Param) (args : List Expression) →
      check_new used earlier (map (λ p. p.name) params) ≡ Passes tt → length params ≡ length args → check_args declared [] params args ≡ Passes tt →
      Fits declared (scope_of params) (argument_givens declared params args) []
  Fits-arguments used earlier [] [] n l h x t i = i
  Fits-arguments used earlier [] (a ∷ args) n l h x t i = absurd cc
  Fits-arguments used earlier (p ∷ params) [] n l h x t i = absurd cc
  Fits-arguments used earlier (p ∷ params) (a ∷ args) n l h x t i =
      let last : Name × Given = (p.name, record { value = val declared [] a; ty = p.ty }) in
      let new = unfailed (used p.name) (is_among earlier p.name) p.name (check_new used (p.name ∷ earlier) (map (λ q. q.name) params)) n in
      let both = passed (check_type declared [] p.ty a) (λ _. check_args declared [] params args) tt h in
      let here = HasType-literal_of_val declared [] (KeepsTypes-nil declared) a p.ty (HasType-checked declared [] p.ty a both.1) in
      let count : length params ≡ length args = cc in
      let rest = Fits-arguments used (p.name ∷ earlier) params args new.1 count both.2 x t in
      elim (truth (same_name p.name x)) [
        | inl e ↦ (let j : Passes p.ty ≡ Passes t = rw e at i in
            let flipped : same_name x p.name ≡ true = eq-eqb x.id p.name.id (ap (λ z. z.id) (sym (name_one p.name x e))) in
            let none = is_among-new used (p.name ∷ earlier) (map (λ q. q.name) params) x (rw flipped refl) new.1 in
            let one : replaced (last ∷ []) x ≡ literal last.1 = rw e refl in
            along (λ u. HasType declared [] u t) (sym (replaced-none params args (last ∷ []) x none ∙ one)) (here ∙ j))
        | inr e ↦ (let j : name_type x (type_in declared (scope_of params) x) ≡ Passes t = rw e at i in
            along (λ u. HasType declared [] u t) (sym (replaced-other (argument_givens declared params args) last x e)) (rest j))
      ]

-- ---- contracts

module _ (book : Book) (reports : List Name) where
  pub ContractPasses-given : (given : Givens) (scope : Scope) (c : Contract) → AreOfTypes book.declared given → IsUndeclaredScope book.declared scope →
      ContractPasses book reports (types_given given ++ scope) c → ContractPasses book reports scope (replace given c)
  ContractPasses-given given s c h k =
      ContractPasses-replace book reports (types_given given ++ s) given s (HaveDeclaredNames-typed book.declared given h)
      (Fits-given book.declared given s (KeepsTypes-undeclared book.declared s k) h) c

  -- below a transmit that took an event
  pub ContractPasses-event : (b : Binders) (p : Expression) (c : Contract) (e : Event) → IsDeclaredEvent book.declared e →
      ContractPasses book reports [] (Transmit b p c) → ContractPasses book reports [] (replace (event_givens b e) c)
  ContractPasses-event b p c e h k =
      ContractPasses-given (event_givens b e) [] c (AreOfTypes-event book.declared b e h) (All-nil (λ q. book.declared q.0 ≡ None))
      (transmit_parts book reports [] b p c k).2

  -- an unfolded body
  pub ContractPasses-arguments : BookPasses book reports → (f : Name) (args : List Expression) (t : Template) → template_in book.templates f ≡ Some t →
      ContractPasses book reports [] (App f args) → ContractPasses book reports [] (replace (argument_givens book.declared t.params args) t.body)
  ContractPasses-arguments typed f args t i h =
      let parts = application_parts book.declared [] f (Some t) args (along (λ o. check_application book.declared [] f o args ≡ Passes tt) i h) in
      let same : parts.0 ≡ t = some parts.1 in
      ContractPasses-replace book reports (scope_of t.params) (argument_givens book.declared t.params args) []
      (HaveDeclaredNames-arguments book.declared t.params args (IsWellFormed-typed book reports [] (App f args) h))
      (Fits-arguments book.declared (in_use book reports) [] t.params args (typed f t i).0
      (along (λ u. length u.params ≡ length args) same parts.2) (along (λ u. check_args book.declared [] u.params args ≡ Passes tt) same parts.3))
      t.body (typed f t i).1
    where
      some : {u v : Template} → Some v ≡ Some u → u ≡ v
      some e = cc
