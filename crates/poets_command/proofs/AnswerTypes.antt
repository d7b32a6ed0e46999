-- What a typed report answers is of its types.
use Rattle.std.proofs.Common.{◌≡◌, Bool, true, false, List, [], ◌∷◌, ◌++◌, map, fold, Option, Some, None, inl, inr, refl, ap, sym, ◌∙◌, eq-eqb}
use Rattle.std.proofs.Math.Bool.{or-true}
use Rattle.std.proofs.lemmas.List.Elements.{All-nil, All-cons, All-head, All-tail, All-weaker, All-contains, All-contains_itself, All-filter}
use Rattle.std.proofs.lemmas.Slice.Zip.{all_zipped_more}
use Rattle.std.specs.Prelude.{All, if◌then◌else◌}
use Rattle.std.specs.List.{Contains}
use Rattle.poets_value.specs.declared.event.Event.{Event}
use Rattle.poets_value.specs.declared.value.Name.{Name}
use Rattle.poets_value.specs.declared.value.Ty.{Ty}
use Rattle.poets_value.specs.declared.value.Value.{Value}
use Rattle.poets_expr.specs.Expression.{Expression, Literal, Undefined, Named, Unary, Make, Binary, If}
use Rattle.poets_expr.specs.Env.{Declared, Env, same_name}
use Rattle.poets_expr.specs.Fold.{HasDeclaredNames}
use Rattle.poets_expr.specs.Val.{val}
use Rattle.poets_expr.proofs.SameTrees.{name_one}
use Rattle.poets_syntax.specs.declared.term.Binders.{Binders}
use Rattle.poets_syntax.specs.declared.term.Param.{Param}
use Rattle.poets_syntax.specs.Book.{parameter_env, taken}
use Rattle.poets_syntax.specs.OfType.{IsOfType, IsTypedEnv}
use Rattle.poets_syntax.specs.Plain.{Book}
use Rattle.poets_syntax.specs.TypeOf.{Scope, type_in, type_of, name_type}
use Rattle.poets_syntax.specs.Typed.{is_among, in_use, scope_of, types_bound}
use Rattle.poets_syntax.specs.Typing.{Has, Fit, AreNew, OneMore}
use Rattle.poets_syntax.proofs.Replacing.{truth as either}
use Rattle.poets_syntax.proofs.TypingRules.{type_passes}
use Rattle.poets_syntax.proofs.Soundness.{IsOfType-val, HasDeclaredNames-val}
use Rattle.poets_syntax.specs.WellFormed.{IsDeclaredEvent}
use Rattle.poets_report.specs.Answers.{IsAnswer_by, IsFoldOfKey}
use Rattle.poets_report.specs.Keys.{same_key}
use Rattle.poets_report.specs.Plain.{Answer, Single, Rows, KeyRow, Report}
use Rattle.poets_report.specs.Reports.{given, start, stage, folded, key_on, with_key}
use Rattle.poets_command.specs.AnswerTypes.{AnswersHaveTypes, IsAnswerOfTypes}
use Rattle.poets_command.specs.Typing.{IsTypedReport, HasKey, NoKey, AKey}

-- ---- the order of names in a scope of different names does not matter

same_types : (declared : Declared) (s s' : Scope) → ((x : Name) → type_in declared s x ≡ type_in declared s' x) → (e : Expression) →
    type_of declared s e ≡ type_of declared s' e
same_types declared s s' k (Literal v) = refl
same_types declared s s' k (Undefined t) = refl
same_types declared s s' k (Named x) = ap (name_type x) (k x)
same_types declared s s' k (Unary o a) = rw (same_types declared s s' k a) refl
same_types declared s s' k (Make a b) = rw (same_types declared s s' k a, same_types declared s s' k b) refl
same_types declared s s' k (Binary o a b) = rw (same_types declared s s' k a, same_types declared s s' k b) refl
same_types declared s s' k (If a b c) = rw (same_types declared s s' k a, same_types declared s s' k b, same_types declared s s' k c) refl

-- the newest names first, as in the environment of the parameters
abbrev turned : List Param → Scope
turned [] = []
turned (p ∷ params) = turned params ++ (p.name, p.ty) ∷ []

-- the types below a name with its type
abbrev below : Declared → Name → Ty → Declared
below declared y t z = if same_name y z then Some t else declared z

type_in_end : (declared : Declared) (s : Scope) (y : Name) (t : Ty) (x : Name) → type_in declared (s ++ (y, t) ∷ []) x ≡ type_in (below declared y t) s x
type_in_end declared [] y t x = refl
type_in_end declared (p ∷ s) y t x = rw (type_in_end declared s y t x) refl

same_below : (d d' : Declared) (s : Scope) (x : Name) → d x ≡ d' x → type_in d s x ≡ type_in d' s x
same_below d d' [] x e = e
same_below d d' (p ∷ s) x e = rw (same_below d d' s x e) refl

same_ahead : (declared : Declared) (ahead s s' : Scope) → ((x : Name) → type_in declared s x ≡ type_in declared s' x) → (x : Name) →
    type_in declared (ahead ++ s) x ≡ type_in declared (ahead ++ s') x
same_ahead declared [] s s' k x = k x
same_ahead declared (p ∷ ahead) s s' k x = rw (same_ahead declared ahead s s' k x) refl

not_among : (b rest : Bool) → (if b then true else rest) ≡ false → (b ≡ false) × (rest ≡ false)
not_among true rest e = absurd cc
not_among false rest e = (refl, e)

-- a name that stands earlier has no type among new parameters
unscoped : (d : Declared) (used : Name → Bool) (earlier : List Name) (params : List Param) → AreNew used earlier (map (λ p. p.name) params) →
    (y x : Name) → is_among earlier y ≡ true → same_name y x ≡ true → type_in d (scope_of params) x ≡ d x
unscoped d used earlier [] n y x among e = refl
unscoped d used earlier (p ∷ params) (OneMore u a n) y x among e =
    elim (either (same_name p.name x)) [
      | inl same ↦ absurd (let one : p.name ≡ y = name_one p.name x same ∙ sym (name_one y x e) in let found : is_among earlier p.name ≡ true = rw one among in cc)
      | inr other ↦ rw other (unscoped d used (p.name ∷ earlier) params n y x (rw among (or-true (same_name y p.name))) e)
    ]

where_true : (b : Bool) (v w w' : Option Ty) → b ≡ true → (if b then v else w) ≡ (if b then v else w')
where_true true v w w' e = refl
where_true false v w w' e = absurd cc

where_false : (b : Bool) (v w : Option Ty) → b ≡ false → (if b then v else w) ≡ w
where_false true v w e = absurd cc
where_false false v w e = refl

turned_types : (declared : Declared) (used : Name → Bool) (earlier : List Name) (params : List Param) → AreNew used earlier (map (λ p. p.name) params) →
    (x : Name) → type_in declared (turned params) x ≡ type_in declared (scope_of params) x
turned_types declared used earlier [] n x = refl
turned_types declared used earlier (p ∷ params) (OneMore u a n) x =
    type_in_end declared (turned params) p.name p.ty x
    ∙ turned_types (below declared p.name p.ty) used (p.name ∷ earlier) params n x
    ∙ elim (either (same_name p.name x)) [
      | inl e ↦ (unscoped (below declared p.name p.ty) used (p.name ∷ earlier) params n p.name x (first_among p.name earlier) e
          ∙ where_true (same_name p.name x) (Some p.ty) (declared x) (type_in declared (scope_of params) x) e)
      | inr e ↦ (same_below (below declared p.name p.ty) declared (scope_of params) x (where_false (same_name p.name x) (Some p.ty) (declared x) e)
          ∙ sym (where_false (same_name p.name x) (Some p.ty) (type_in declared (scope_of params) x) e))
    ]
  where
    first_among : (y : Name) (names : List Name) → is_among (y ∷ names) y ≡ true
    first_among y names = rw (eq-eqb y.id y.id refl) refl

-- ---- environments

typed_given : (declared : Declared) (params : List Param) (args : List Expression) → Fit declared [] params args →
    IsTypedEnv declared (turned params) (parameter_env params (map (val declared []) args))
typed_given declared [] [] f = tt
typed_given declared [] (a ∷ args) f = absurd f
typed_given declared (p ∷ params) [] f = absurd f
typed_given declared (p ∷ params) (a ∷ args) f =
    let passes = type_passes declared [] a p.ty f.0 in
    let known = HasDeclaredNames-val declared [] [] tt a p.ty passes in
    let typed = IsOfType-val declared [] [] tt a p.ty passes in
    all_zipped_more (λ s q. (s.0 ≡ q.0) × HasDeclaredNames declared q.1 × IsOfType q.1 s.1) (turned params)
    (parameter_env params (map (val declared []) args)) (p.name, p.ty) (p.name, val declared [] a) (typed_given declared params args f.1) (refl, known, typed)

typed_taken : (declared : Declared) (b : Binders) (e : Event) (scope : Scope) (env : Env) → IsDeclaredEvent declared e → IsTypedEnv declared scope env →
    IsTypedEnv declared (types_bound b ++ scope) (taken b e env)
typed_taken declared b e scope env h k = ((refl, tt, refl), ((refl, h.kind, refl), ((refl, h.receiver, refl), ((refl, h.sender, refl), k))))

-- under an environment of a scope, in whatever order its names stand
value_typed : (declared : Declared) (s s' : Scope) (env : Env) → ((x : Name) → type_in declared s x ≡ type_in declared s' x) → IsTypedEnv declared s env →
    (e : Expression) (t : Ty) → Has declared s' e t → IsOfType (val declared env e) t × HasDeclaredNames declared (val declared env e)
value_typed declared s s' env agree k e t h =
    let passes = same_types declared s s' agree e ∙ type_passes declared s' e t h in
    (IsOfType-val declared s env k e t passes, HasDeclaredNames-val declared s env k e t passes)

-- ---- answers

agrees : (book : Book) (reports : List Name) (q : Report) → IsTypedReport book reports q →
    (x : Name) → type_in book.declared (turned q.params) x ≡ type_in book.declared (scope_of q.params) x
agrees book reports q typed x = turned_types book.declared (in_use book reports) [] q.params typed.params x

-- a value that may be carried to the next event
IsCarried : Declared → Report → Option Value → Type 0
IsCarried declared q v = IsOfType v q.ty × HasDeclaredNames declared v

start_typed : (book : Book) (reports : List Name) (q : Report) (args : List Expression) → IsTypedReport book reports q → Fit book.declared [] q.params args →
    IsCarried book.declared q (start book.declared q (map (val book.declared []) args))
unfolding IsCarried
start_typed book reports q args typed fit =
    value_typed book.declared (turned q.params) (scope_of q.params) (given q (map (val book.declared []) args)) (agrees book reports q typed)
    (typed_given book.declared q.params args fit) q.start q.ty typed.start

stage_typed : (book : Book) (reports : List Name) (q : Report) (args : List Expression) (carried : Option Value) (e : Event) →
    IsTypedReport book reports q → Fit book.declared [] q.params args → IsCarried book.declared q carried → IsDeclaredEvent book.declared e →
    IsCarried book.declared q (stage book.declared q (map (val book.declared []) args) carried e)
unfolding IsCarried
stage_typed book reports q args carried e typed fit h event =
    let env = typed_given book.declared q.params args fit in
    value_typed book.declared (types_bound q.binders ++ (q.carry, q.ty) ∷ turned q.params) (types_bound q.binders ++ (q.carry, q.ty) ∷ scope_of q.params)
    (taken q.binders e ((q.carry, carried) ∷ given q (map (val book.declared []) args)))
    (same_ahead book.declared (types_bound q.binders) ((q.carry, q.ty) ∷ turned q.params) ((q.carry, q.ty) ∷ scope_of q.params)
    (same_ahead book.declared ((q.carry, q.ty) ∷ []) (turned q.params) (scope_of q.params) (agrees book reports q typed)))
    (typed_taken book.declared q.binders e ((q.carry, q.ty) ∷ turned q.params) ((q.carry, carried) ∷ given q (map (val book.declared []) args)) event
    ((refl, h.1, h.0), env))
    q.step q.ty typed.step

fold_typed : (book : Book) (reports : List Name) (q : Report) (args : List Expression) (carried : Option Value) (events : List Event) →
    IsTypedReport book reports q → Fit book.declared [] q.params args → IsCarried book.declared q carried → All (IsDeclaredEvent book.declared) events →
    IsCarried book.declared q (fold (stage book.declared q (map (val book.declared []) args)) carried events)
fold_typed book reports q args carried [] typed fit h all = h
fold_typed book reports q args carried (e ∷ events) typed fit h all =
    let here = All-head (IsDeclaredEvent book.declared) e events all in
    fold_typed book reports q args (stage book.declared q (map (val book.declared []) args) carried e) events typed fit
    (stage_typed book reports q args carried e typed fit h here) (All-tail (IsDeclaredEvent book.declared) e events all)

folded_typed : (book : Book) (reports : List Name) (q : Report) (args : List Expression) (events : List Event) →
    IsTypedReport book reports q → Fit book.declared [] q.params args → All (IsDeclaredEvent book.declared) events →
    IsOfType (folded book.declared q (map (val book.declared []) args) events) q.ty
unfolding IsCarried
folded_typed book reports q args events typed fit all =
    (fold_typed book reports q args (start book.declared q (map (val book.declared []) args)) events typed fit (start_typed book reports q args typed fit) all).0

key_typed : (book : Book) (reports : List Name) (q : Report) (args : List Expression) (key : Expression) (t : Ty) (e : Event) →
    IsTypedReport book reports q → Fit book.declared [] q.params args → Has book.declared (types_bound q.binders ++ scope_of q.params) key t →
    IsDeclaredEvent book.declared e → IsOfType (key_on book.declared q (map (val book.declared []) args) key e) t
key_typed book reports q args key t e typed fit h event =
    (value_typed book.declared (types_bound q.binders ++ turned q.params) (types_bound q.binders ++ scope_of q.params)
    (taken q.binders e (given q (map (val book.declared []) args)))
    (same_ahead book.declared (types_bound q.binders) (turned q.params) (scope_of q.params) (agrees book reports q typed))
    (typed_taken book.declared q.binders e (turned q.params) (given q (map (val book.declared []) args)) event (typed_given book.declared q.params args fit))
    key t h).0

keys_typed : (book : Book) (reports : List Name) (q : Report) (args : List Expression) (key : Expression) (t : Ty) (events : List Event) →
    IsTypedReport book reports q → Fit book.declared [] q.params args → Has book.declared (types_bound q.binders ++ scope_of q.params) key t →
    All (IsDeclaredEvent book.declared) events → All (λ k. IsOfType k t) (map (key_on book.declared q (map (val book.declared []) args) key) events)
keys_typed book reports q args key t [] typed fit h all = All-nil (λ k. IsOfType k t)
keys_typed book reports q args key t (e ∷ events) typed fit h all =
    All-cons (λ k. IsOfType k t) (key_on book.declared q (map (val book.declared []) args) key e) (map (key_on book.declared q (map (val book.declared []) args) key) events)
    (key_typed book reports q args key t e typed fit h (All-head (IsDeclaredEvent book.declared) e events all))
    (keys_typed book reports q args key t events typed fit h (All-tail (IsDeclaredEvent book.declared) e events all))

module _ (book : Book) (reports : List Name) (q : Report) (args : List Expression) (key : Expression) (t : Ty) where
  row_typed : (events : List Event) →
      IsTypedReport book reports q → Fit book.declared [] q.params args → Has book.declared (types_bound q.binders ++ scope_of q.params) key t →
      All (IsDeclaredEvent book.declared) events → (r : KeyRow) →
      IsFoldOfKey book.declared q (map (val book.declared []) args) (key_on book.declared q (map (val book.declared []) args) key) events r.0 r.1 →
      IsOfType r.0 t × IsOfType r.1 q.ty
  row_typed events typed fit h all r row =
      let of_key = key_on book.declared q (map (val book.declared []) args) key in
      let of_rows = All-filter (λ e. same_key r.0 (of_key e)) (IsDeclaredEvent book.declared) events all in (
        All-contains (λ k. IsOfType k t) (map of_key events) r.0 (keys_typed book reports q args key t events typed fit h all) row.0,
        rw row.1 (folded_typed book reports q args (with_key of_key r.0 events) typed fit of_rows),
      )

-- by the report's key
by_key : (book : Book) (reports : List Name) (q : Report) → IsTypedReport book reports q →
    (o : Option Expression) → HasKey book.declared (types_bound q.binders ++ scope_of q.params) o →
    (t : Ty) × ((args : List Expression) (events : List Event) (a : Answer) → Fit book.declared [] q.params args → All (IsDeclaredEvent book.declared) events →
    IsAnswer_by o book.declared q (map (val book.declared []) args) events a → IsAnswerOfTypes t q.ty a)
by_key book reports q typed None NoKey = (q.ty, λ args events a fit all h. single args events a fit all h)
  where
    single : (args : List Expression) (events : List Event) (a : Answer) → Fit book.declared [] q.params args → All (IsDeclaredEvent book.declared) events →
        IsAnswer_by None book.declared q (map (val book.declared []) args) events a → IsAnswerOfTypes q.ty q.ty a
    single args events (Single v) fit all h = rw h (folded_typed book reports q args events typed fit all)
    single args events (Rows rows) fit all h = absurd h
by_key book reports q typed (Some key) (AKey {t = t} k) = (t, λ args events a fit all h. keyed args events a fit all h)
  where
    keyed : (args : List Expression) (events : List Event) (a : Answer) → Fit book.declared [] q.params args → All (IsDeclaredEvent book.declared) events →
        IsAnswer_by (Some key) book.declared q (map (val book.declared []) args) events a → IsAnswerOfTypes t q.ty a
    keyed args events (Single v) fit all h = absurd h
    keyed args events (Rows rows) fit all h =
        All-weaker (Contains rows) (λ r. IsOfType r.0 t × IsOfType r.1 q.ty)
        (λ r found. row_typed book reports q args key t events typed fit k all r ((h.each r.0 r.1).0 found)) rows (All-contains_itself rows)

pub answers_have_types : AnswersHaveTypes
answers_have_types book reports q typed = by_key book reports q typed q.key typed.key
