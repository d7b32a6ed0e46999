-- What typing gives: declared names are bound nowhere, literals are of declared kinds, and applications fit.
use Rattle.std.proofs.Common.{◌≡◌, ℕ, nat_eq, Bool, true, false, List, [], ◌∷◌, ◌++◌, length, Option, Some, None, refl}
use Rattle.std.proofs.lemmas.Bool.{eqb-true}
use Rattle.std.specs.Prelude.{◌||◌, is_some, if◌then◌else◌}
use Rattle.poets_value.specs.declared.value.Name.{Name}
use Rattle.poets_value.specs.declared.value.Ty.{Ty}
use Rattle.poets_value.specs.declared.value.Ty.TheVariants as T
use Rattle.poets_value.specs.declared.value.Value.{Value}
use Rattle.poets_value.specs.declared.value.Value.TheVariants as V
use Rattle.poets_expr.specs.Expression.{Expression, Literal, Undefined, Named, Unary, Make, Binary, If}
use Rattle.poets_expr.specs.Env.{Declared}
use Rattle.poets_expr.specs.Fold.{HasDeclaredNames, HasDeclaredLiterals}
use Rattle.poets_syntax.specs.declared.term.Binders.{Binders}
use Rattle.poets_syntax.specs.declared.term.Param.{Param}
use Rattle.poets_syntax.specs.Contract.{Contract, Success, Failure, Transmit, Plus, Par, Seq, App}
use Rattle.poets_syntax.specs.Plain.{Book, Template, TypeCause, Twice, WrongCount}
use Rattle.poets_syntax.specs.Book.{template_in}
use Rattle.poets_syntax.specs.Replace.{AreUndeclared}
use Rattle.poets_syntax.specs.Applied.{Takes, ApplicationsFit}
use Rattle.poets_syntax.specs.WellFormed.{HaveDeclaredLiterals, IsWellFormed}
use Rattle.poets_syntax.specs.TypeOf.{Verdict, Passes, Fails, ◌>>=◌, Scope, must_be, unary_type, binary_type, make_type, if_type, resource_type, literal_type, type_of}
use Rattle.poets_syntax.specs.Typed.{is_among, in_use, check_new, check_type, check_args, check_application, check_contract, names_bound, types_bound}
use Rattle.poets_syntax.specs.code.Passing.{ContractPasses}

-- what passes two checks passes each
pub passed : {A B : Type 0} (x : Verdict A) (next : A → Verdict B) (b : B) → (x >>= next) ≡ Passes b → (a : A) × (x ≡ Passes a) × (next a ≡ Passes b)
passed (Passes a) next b h = (a, refl, h)
passed (Fails f) next b h = absurd cc

pub kind_declared : (kind : Name) (o : Option Ty) (t : Ty) → resource_type kind o ≡ Passes t → o ≡ Some T.Kind
kind_declared kind None t h = absurd cc
kind_declared kind (Some T.Int) t h = absurd cc
kind_declared kind (Some T.Bool) t h = absurd cc
kind_declared kind (Some T.Agent) t h = absurd cc
kind_declared kind (Some T.Kind) t h = refl
kind_declared kind (Some T.Resource) t h = absurd cc
kind_declared kind (Some T.Day) t h = absurd cc

HasDeclaredNames-typed : (declared : Declared) (v : Value) (t : Ty) → literal_type declared v ≡ Passes t → HasDeclaredNames declared (Some v)
HasDeclaredNames-typed declared (V.Int n) t h = tt
HasDeclaredNames-typed declared (V.Bool b) t h = tt
HasDeclaredNames-typed declared (V.Agent x) t h = absurd cc
HasDeclaredNames-typed declared (V.Kind x) t h = absurd cc
HasDeclaredNames-typed declared (V.Resource r) t h = kind_declared r.kind (declared r.kind) t h
HasDeclaredNames-typed declared (V.Day d) t h = tt

pub HasDeclaredLiterals-typed : (declared : Declared) (scope : Scope) (e : Expression) (t : Ty) → type_of declared scope e ≡ Passes t → HasDeclaredLiterals declared e
HasDeclaredLiterals-typed declared scope (Literal v) t h = HasDeclaredNames-typed declared v t h
HasDeclaredLiterals-typed declared scope (Undefined u) t h = tt
HasDeclaredLiterals-typed declared scope (Named x) t h = tt
HasDeclaredLiterals-typed declared scope (Unary o a) t h =
    let p = passed (type_of declared scope a) (unary_type o) t h in
    HasDeclaredLiterals-typed declared scope a p.0 p.1
HasDeclaredLiterals-typed declared scope (Make a b) t h =
    let p = passed (type_of declared scope a) (λ x. type_of declared scope b >>= λ y. make_type x y) t h in
    let q = passed (type_of declared scope b) (make_type p.0) t p.2 in
    (HasDeclaredLiterals-typed declared scope a p.0 p.1, HasDeclaredLiterals-typed declared scope b q.0 q.1)
HasDeclaredLiterals-typed declared scope (Binary o a b) t h =
    let p = passed (type_of declared scope a) (λ x. type_of declared scope b >>= λ y. binary_type o x y) t h in
    let q = passed (type_of declared scope b) (binary_type o p.0) t p.2 in
    (HasDeclaredLiterals-typed declared scope a p.0 p.1, HasDeclaredLiterals-typed declared scope b q.0 q.1)
HasDeclaredLiterals-typed declared scope (If a b c) t h =
    let p = passed (type_of declared scope a) (λ x. type_of declared scope b >>= λ y. type_of declared scope c >>= λ z. if_type x y z) t h in
    let q = passed (type_of declared scope b) (λ y. type_of declared scope c >>= λ z. if_type p.0 y z) t p.2 in
    let r = passed (type_of declared scope c) (if_type p.0 q.0) t q.2 in
    (HasDeclaredLiterals-typed declared scope a p.0 p.1, HasDeclaredLiterals-typed declared scope b q.0 q.1, HasDeclaredLiterals-typed declared scope c r.0 r.1)

HaveDeclaredLiterals-typed : (declared : Declared) (scope : Scope) (params : List Param) (args : List Expression) → length params ≡ length args →
    check_args declared scope params args ≡ Passes tt → HaveDeclaredLiterals declared args
HaveDeclaredLiterals-typed declared scope [] [] e h = tt
HaveDeclaredLiterals-typed declared scope [] (a ∷ args) e h = absurd cc
HaveDeclaredLiterals-typed declared scope (p ∷ params) [] e h = tt
HaveDeclaredLiterals-typed declared scope (p ∷ params) (a ∷ args) e h =
    let here = passed (check_type declared scope p.ty a) (λ _. check_args declared scope params args) tt h in
    let typed = passed (type_of declared scope a) (λ found. must_be p.ty found) here.0 here.1 in
    let rest : length params ≡ length args = cc in
    (HasDeclaredLiterals-typed declared scope a typed.0 typed.1, HaveDeclaredLiterals-typed declared scope params args rest here.2)

undeclared : (used among : Bool) (x : Name) (next : Verdict (Unit {0})) → (if used || among then Fails (Twice x) else next) ≡ Passes tt → (used ≡ false) × (next ≡ Passes tt)
undeclared true among x next h = absurd cc
undeclared false true x next h = absurd cc
undeclared false false x next h = (refl, h)

not_declared : (o : Option Ty) (template report : Bool) → (is_some o || template || report) ≡ false → o ≡ None
not_declared None template report h = refl
not_declared (Some t) true true h = absurd cc
not_declared (Some t) true false h = absurd cc
not_declared (Some t) false true h = absurd cc
not_declared (Some t) false false h = absurd cc

new_undeclared : (book : Book) (reports : List Name) (earlier : List Name) (x : Name) (names : List Name) →
    check_new (in_use book reports) earlier (x ∷ names) ≡ Passes tt → (book.declared x ≡ None) × (check_new (in_use book reports) (x ∷ earlier) names ≡ Passes tt)
new_undeclared book reports earlier x names h =
    let p = undeclared (in_use book reports x) (is_among earlier x) x (check_new (in_use book reports) (x ∷ earlier) names) h in
    (not_declared (book.declared x) (is_some (template_in book.templates x)) (is_among reports x) p.0, p.1)

AreUndeclared-typed : (book : Book) (reports : List Name) (b : Binders) → check_new (in_use book reports) [] (names_bound b) ≡ Passes tt → AreUndeclared book.declared b
AreUndeclared-typed book reports b h =
    let sender = new_undeclared book reports [] b.sender (b.receiver ∷ b.what ∷ b.day ∷ []) h in
    let receiver = new_undeclared book reports (b.sender ∷ []) b.receiver (b.what ∷ b.day ∷ []) sender.1 in
    let what = new_undeclared book reports (b.receiver ∷ b.sender ∷ []) b.what (b.day ∷ []) receiver.1 in
    let day = new_undeclared book reports (b.what ∷ b.receiver ∷ b.sender ∷ []) b.day [] what.1 in
    record { sender = sender.0; receiver = receiver.0; what = what.0; day = day.0 }

pub as_many : (m n : ℕ) (f : TypeCause) (next : Verdict (Unit {0})) → (if nat_eq m n then next else Fails f) ≡ Passes tt → (m ≡ n) × (next ≡ Passes tt)
as_many m n f next h = by (nat_eq m n) refl h
  where
    by : (b : Bool) → nat_eq m n ≡ b → (if b then next else Fails f) ≡ Passes tt → (m ≡ n) × (next ≡ Passes tt)
    by true e k = (eqb-true m n e, k)
    by false e k = absurd cc

applied_literals : (declared : Declared) (scope : Scope) (f : Name) (o : Option Template) (args : List Expression) →
    check_application declared scope f o args ≡ Passes tt → HaveDeclaredLiterals declared args
applied_literals declared scope f None args h = absurd cc
applied_literals declared scope f (Some t) args h =
    let p = as_many (length t.params) (length args) (WrongCount f (length t.params) (length args)) (check_args declared scope t.params args) h in
    HaveDeclaredLiterals-typed declared scope t.params args p.0 p.1

pub IsWellFormed-typed : (book : Book) (reports : List Name) (scope : Scope) (c : Contract) → ContractPasses book reports scope c → IsWellFormed book.declared c
IsWellFormed-typed book reports scope Success h = tt
IsWellFormed-typed book reports scope Failure h = tt
IsWellFormed-typed book reports scope (Transmit b p c) h =
    let binders = passed (check_new (in_use book reports) [] (names_bound b))
    (λ _. check_type book.declared (types_bound b ++ scope) T.Bool p >>= λ _. check_contract book reports (types_bound b ++ scope) c) tt h in
    let predicate = passed (check_type book.declared (types_bound b ++ scope) T.Bool p) (λ _. check_contract book reports (types_bound b ++ scope) c) tt binders.2 in
    (AreUndeclared-typed book reports b binders.1, IsWellFormed-typed book reports (types_bound b ++ scope) c predicate.2)
IsWellFormed-typed book reports scope (Plus c₁ c₂) h =
    let p = passed (check_contract book reports scope c₁) (λ _. check_contract book reports scope c₂) tt h in
    (IsWellFormed-typed book reports scope c₁ p.1, IsWellFormed-typed book reports scope c₂ p.2)
IsWellFormed-typed book reports scope (Par c₁ c₂) h =
    let p = passed (check_contract book reports scope c₁) (λ _. check_contract book reports scope c₂) tt h in
    (IsWellFormed-typed book reports scope c₁ p.1, IsWellFormed-typed book reports scope c₂ p.2)
IsWellFormed-typed book reports scope (Seq c₁ c₂) h =
    let p = passed (check_contract book reports scope c₁) (λ _. check_contract book reports scope c₂) tt h in
    (IsWellFormed-typed book reports scope c₁ p.1, IsWellFormed-typed book reports scope c₂ p.2)
IsWellFormed-typed book reports scope (App f args) h = applied_literals book.declared scope f (template_in book.templates f) args h

-- ---- applications of templates

fitting : (book : Book) (scope : Scope) (f : Name) (args : List Expression) (o : Option Template) → template_in book.templates f ≡ o →
    check_application book.declared scope f o args ≡ Passes tt → Takes book f (length args)
fitting book scope f args None e h = absurd cc
fitting book scope f args (Some t) e h =
    let p = as_many (length t.params) (length args) (WrongCount f (length t.params) (length args)) (check_args book.declared scope t.params args) h in
    (t, e, p.0)

pub ApplicationsFit-typed : (book : Book) (reports : List Name) (scope : Scope) (c : Contract) → ContractPasses book reports scope c → ApplicationsFit book c
ApplicationsFit-typed book reports scope Success h = tt
ApplicationsFit-typed book reports scope Failure h = tt
ApplicationsFit-typed book reports scope (Transmit b p c) h =
    let binders = passed (check_new (in_use book reports) [] (names_bound b))
    (λ _. check_type book.declared (types_bound b ++ scope) T.Bool p >>= λ _. check_contract book reports (types_bound b ++ scope) c) tt h in
    let predicate = passed (check_type book.declared (types_bound b ++ scope) T.Bool p) (λ _. check_contract book reports (types_bound b ++ scope) c) tt binders.2 in
    ApplicationsFit-typed book reports (types_bound b ++ scope) c predicate.2
ApplicationsFit-typed book reports scope (Plus c₁ c₂) h =
    let p = passed (check_contract book reports scope c₁) (λ _. check_contract book reports scope c₂) tt h in
    (ApplicationsFit-typed book reports scope c₁ p.1, ApplicationsFit-typed book reports scope c₂ p.2)
ApplicationsFit-typed book reports scope (Par c₁ c₂) h =
    let p = passed (check_contract book reports scope c₁) (λ _. check_contract book reports scope c₂) tt h in
    (ApplicationsFit-typed book reports scope c₁ p.1, ApplicationsFit-typed book reports scope c₂ p.2)
ApplicationsFit-typed book reports scope (Seq c₁ c₂) h =
    let p = passed (check_contract book reports scope c₁) (λ _. check_contract book reports scope c₂) tt h in
    (ApplicationsFit-typed book reports scope c₁ p.1, ApplicationsFit-typed book reports scope c₂ p.2)
ApplicationsFit-typed book reports scope (App f args) h = fitting book scope f args (template_in book.templates f) refl h
