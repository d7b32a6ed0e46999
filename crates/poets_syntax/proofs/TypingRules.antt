-- A check of an expression, a contract or a template passes exactly where the rules of typing hold.
use Rattle.std.proofs.Common.{◌≡◌, Bool, true, false, List, [], ◌∷◌, ◌++◌, length, map, Option, Some, None, suc, refl, ap, sym, ◌∙◌, eq-eqb}
use Rattle.std.specs.Prelude.{◌||◌, if◌then◌else◌}
use Rattle.poets_value.specs.declared.value.Name.{Name}
use Rattle.poets_value.specs.declared.value.Ty.{Ty}
use Rattle.poets_value.specs.declared.value.Ty.TheVariants as T
use Rattle.poets_value.specs.declared.value.Value.{Value}
use Rattle.poets_value.specs.declared.value.Value.TheVariants as V
use Rattle.poets_expr.specs.declared.expr.Op.{Op}
use Rattle.poets_expr.specs.declared.expr.Op.TheVariants as O
use Rattle.poets_expr.specs.Expression.{UnaryOp, Minus, Not, AmountOf, KindOf, Expression, Literal, Undefined, Named, Unary, Make, Binary, If}
use Rattle.poets_expr.specs.Env.{Declared}
use Rattle.poets_syntax.specs.declared.term.Param.{Param}
use Rattle.poets_syntax.specs.Contract.{Contract, Success, Failure, Transmit, Plus, Par, Seq, App}
use Rattle.poets_syntax.specs.Plain.{Book, Template, Twice, WrongCount}
use Rattle.poets_syntax.specs.Book.{template_in}
use Rattle.poets_syntax.specs.Applied.{BodiesFit}
use Rattle.poets_syntax.specs.TypeOf.{Verdict, Passes, ◌>>=◌, Scope, type_in, same_type, must_be, unary_type, binary_type, sum_type, equal_type, order_type, make_type, if_type, name_type, literal_type, type_of}
use Rattle.poets_syntax.specs.TypeOf as F
use Rattle.poets_syntax.specs.Typed.{is_among, in_use, check_new, names_bound, types_bound, check_type, check_args, check_arguments, check_application, check_contract, scope_of}
use Rattle.poets_syntax.specs.Typing.{IsNumberOrDay, Number, ADay, IsSum, IsProduct, IsEquality, IsComparison, IsConnective, Has, Fit, AreNew, IsTyped, IsTypedTemplate, IsTypedBook}
use Rattle.poets_syntax.specs.Typing as R
use Rattle.poets_syntax.specs.TypedLaws.{TypesByRules, ContractsByRules}
use Rattle.poets_syntax.specs.code.Passing.{TemplatePasses, BookPasses}
use Rattle.poets_syntax.proofs.Typedness.{passed, kind_declared, as_many, ApplicationsFit-typed}

-- one type

pub same_itself : (t : Ty) → same_type t t ≡ true
same_itself t = eq-eqb _ _ refl

pub must_be_itself : (t : Ty) → must_be t t ≡ Passes tt
must_be_itself t = rw (same_itself t) refl

pub one_type : (s t : Ty) → must_be s t ≡ Passes tt → s ≡ t
one_type T.Int T.Int h = refl
one_type T.Bool T.Bool h = refl
one_type T.Agent T.Agent h = refl
one_type T.Kind T.Kind h = refl
one_type T.Resource T.Resource h = refl
one_type T.Day T.Day h = refl
one_type _ _ h = absurd cc

-- from a check that passes to the rules

number_or_day : (t : Ty) (u : Unit {0}) → F.must_be_number_or_day t ≡ Passes u → IsNumberOrDay t
number_or_day T.Int u h = Number
number_or_day T.Day u h = ADay
number_or_day T.Bool u h = absurd cc
number_or_day T.Agent u h = absurd cc
number_or_day T.Kind u h = absurd cc
number_or_day T.Resource u h = absurd cc

pub must_one : (s t : Ty) (u : Unit {0}) → must_be s t ≡ Passes u → s ≡ t
must_one s t tt h = one_type s t h

moved : (declared : Declared) (scope : Scope) (e : Expression) (s t : Ty) → Passes s ≡ Passes t → Has declared scope e s → Has declared scope e t
moved declared scope e s t h x = let same : s ≡ t = cc in rw (sym same) x

one_part : (wanted x node t : Ty) → F.of_one wanted x node ≡ Passes t → (wanted ≡ x) × (Passes node ≡ Passes t)
one_part wanted x node t h =
    let p = passed (must_be wanted x) (λ _. Passes node) t h in
    (must_one wanted x p.0 p.1, p.2)

two_parts : (wanted x y node t : Ty) → F.of_two wanted x y node ≡ Passes t → (wanted ≡ x) × (wanted ≡ y) × (Passes node ≡ Passes t)
two_parts wanted x y node t h =
    let p = passed (must_be wanted x) (λ _. must_be wanted y >>= λ _. Passes node) t h in
    let q = passed (must_be wanted y) (λ _. Passes node) t p.2 in
    (must_one wanted x p.0 p.1, must_one wanted y q.0 q.1, q.2)

sum_parts : (x y t : Ty) → sum_type x y ≡ Passes t → IsNumberOrDay x × (T.Int ≡ y) × (Passes x ≡ Passes t)
sum_parts x y t h =
    let p = passed (F.must_be_number_or_day x) (λ _. must_be T.Int y >>= λ _. Passes x) t h in
    let q = passed (must_be T.Int y) (λ _. Passes x) t p.2 in
    (number_or_day x p.0 p.1, must_one T.Int y q.0 q.1, q.2)

equal_parts : (x y t : Ty) → equal_type x y ≡ Passes t → (x ≡ y) × (Passes T.Bool ≡ Passes t)
equal_parts x y t h =
    let p = passed (must_be x y) (λ _. Passes T.Bool) t h in
    (must_one x y p.0 p.1, p.2)

order_parts : (x y t : Ty) → order_type x y ≡ Passes t → IsNumberOrDay x × (x ≡ y) × (Passes T.Bool ≡ Passes t)
order_parts x y t h =
    let p = passed (F.must_be_number_or_day x) (λ _. equal_type x y) t h in
    let q = equal_parts x y t p.2 in
    (number_or_day x p.0 p.1, q.0, q.1)

has_literal : (declared : Declared) (scope : Scope) (v : Value) (t : Ty) → literal_type declared v ≡ Passes t → Has declared scope (Literal v) t
has_literal declared scope (V.Int n) t h = moved declared scope (Literal (V.Int n)) T.Int t h R.ANumber
has_literal declared scope (V.Bool b) t h = moved declared scope (Literal (V.Bool b)) T.Bool t h R.ATruth
has_literal declared scope (V.Day d) t h = moved declared scope (Literal (V.Day d)) T.Day t h R.ADate
has_literal declared scope (V.Agent x) t h = absurd cc
has_literal declared scope (V.Kind x) t h = absurd cc
has_literal declared scope (V.Resource r) t h =
    let kind = kind_declared r.kind (declared r.kind) t h in
    let gives : Passes T.Resource ≡ Passes t = sym (resource_passes r.kind (declared r.kind) kind) ∙ h in
    moved declared scope (Literal (V.Resource r)) T.Resource t gives (R.AnAmount kind)
  where
    resource_passes : (x : Name) (o : Option Ty) → o ≡ Some T.Kind → F.resource_type x o ≡ Passes T.Resource
    resource_passes x o e = rw e refl

has_name : (declared : Declared) (scope : Scope) (x : Name) (o : Option Ty) (t : Ty) → type_in declared scope x ≡ o → name_type x o ≡ Passes t → Has declared scope (Named x) t
has_name declared scope x None t e h = absurd cc
has_name declared scope x (Some s) t e h = moved declared scope (Named x) s t h (R.AName e)

has_unary : (declared : Declared) (scope : Scope) (o : UnaryOp) (a : Expression) (x t : Ty) → unary_type o x ≡ Passes t → Has declared scope a x → Has declared scope (Unary o a) t
has_unary declared scope Minus a x t h k =
    let p = one_part T.Int x T.Int t h in
    moved declared scope (Unary Minus a) T.Int t p.1 (R.Negation (rw p.0 k))
has_unary declared scope Not a x t h k =
    let p = one_part T.Bool x T.Bool t h in
    moved declared scope (Unary Not a) T.Bool t p.1 (R.Denial (rw p.0 k))
has_unary declared scope AmountOf a x t h k =
    let p = one_part T.Resource x T.Int t h in
    moved declared scope (Unary AmountOf a) T.Int t p.1 (R.TheAmount (rw p.0 k))
has_unary declared scope KindOf a x t h k =
    let p = one_part T.Resource x T.Kind t h in
    moved declared scope (Unary KindOf a) T.Kind t p.1 (R.TheKind (rw p.0 k))

has_sum : (declared : Declared) (scope : Scope) (o : Op) (a b : Expression) (x y t : Ty) → IsSum o → sum_type x y ≡ Passes t →
    Has declared scope a x → Has declared scope b y → Has declared scope (Binary o a b) t
has_sum declared scope o a b x y t is h k l =
    let p = sum_parts x y t h in
    moved declared scope (Binary o a b) x t p.2 (R.Sum is p.0 k (rw p.1 l))

has_product : (declared : Declared) (scope : Scope) (o : Op) (a b : Expression) (x y t : Ty) → IsProduct o → F.of_two T.Int x y T.Int ≡ Passes t →
    Has declared scope a x → Has declared scope b y → Has declared scope (Binary o a b) t
has_product declared scope o a b x y t is h k l =
    let p = two_parts T.Int x y T.Int t h in
    moved declared scope (Binary o a b) T.Int t p.2 (R.Product is (rw p.0 k) (rw p.1 l))

has_connective : (declared : Declared) (scope : Scope) (o : Op) (a b : Expression) (x y t : Ty) → IsConnective o → F.of_two T.Bool x y T.Bool ≡ Passes t →
    Has declared scope a x → Has declared scope b y → Has declared scope (Binary o a b) t
has_connective declared scope o a b x y t is h k l =
    let p = two_parts T.Bool x y T.Bool t h in
    moved declared scope (Binary o a b) T.Bool t p.2 (R.Connective is (rw p.0 k) (rw p.1 l))

has_equality : (declared : Declared) (scope : Scope) (o : Op) (a b : Expression) (x y t : Ty) → IsEquality o → equal_type x y ≡ Passes t →
    Has declared scope a x → Has declared scope b y → Has declared scope (Binary o a b) t
has_equality declared scope o a b x y t is h k l =
    let p = equal_parts x y t h in
    moved declared scope (Binary o a b) T.Bool t p.1 (R.Equality is k (rw p.0 l))

has_comparison : (declared : Declared) (scope : Scope) (o : Op) (a b : Expression) (x y t : Ty) → IsComparison o → order_type x y ≡ Passes t →
    Has declared scope a x → Has declared scope b y → Has declared scope (Binary o a b) t
has_comparison declared scope o a b x y t is h k l =
    let p = order_parts x y t h in
    moved declared scope (Binary o a b) T.Bool t p.2 (R.Comparison is p.0 k (rw p.1 l))

has_difference : (declared : Declared) (scope : Scope) (a b : Expression) (x y t : Ty) → F.difference_type x y ≡ Passes t →
    Has declared scope a x → Has declared scope b y → Has declared scope (Binary O.Sub a b) t
has_difference declared scope a b T.Day T.Day t h k l = moved declared scope (Binary O.Sub a b) T.Int t h (R.Days k l)
has_difference declared scope a b T.Day T.Int t h k l = has_sum declared scope O.Sub a b T.Day T.Int t R.TakenAway h k l
has_difference declared scope a b T.Day T.Bool t h k l = has_sum declared scope O.Sub a b T.Day T.Bool t R.TakenAway h k l
has_difference declared scope a b T.Day T.Agent t h k l = has_sum declared scope O.Sub a b T.Day T.Agent t R.TakenAway h k l
has_difference declared scope a b T.Day T.Kind t h k l = has_sum declared scope O.Sub a b T.Day T.Kind t R.TakenAway h k l
has_difference declared scope a b T.Day T.Resource t h k l = has_sum declared scope O.Sub a b T.Day T.Resource t R.TakenAway h k l
has_difference declared scope a b T.Int y t h k l = has_sum declared scope O.Sub a b T.Int y t R.TakenAway h k l
has_difference declared scope a b T.Bool y t h k l = has_sum declared scope O.Sub a b T.Bool y t R.TakenAway h k l
has_difference declared scope a b T.Agent y t h k l = has_sum declared scope O.Sub a b T.Agent y t R.TakenAway h k l
has_difference declared scope a b T.Kind y t h k l = has_sum declared scope O.Sub a b T.Kind y t R.TakenAway h k l
has_difference declared scope a b T.Resource y t h k l = has_sum declared scope O.Sub a b T.Resource y t R.TakenAway h k l

has_binary : (declared : Declared) (scope : Scope) (o : Op) (a b : Expression) (x y t : Ty) → binary_type o x y ≡ Passes t →
    Has declared scope a x → Has declared scope b y → Has declared scope (Binary o a b) t
has_binary declared scope O.Add a b x y t h k l = has_sum declared scope O.Add a b x y t R.Added h k l
has_binary declared scope O.Sub a b x y t h k l = has_difference declared scope a b x y t h k l
has_binary declared scope O.Mul a b x y t h k l = has_product declared scope O.Mul a b x y t R.Times h k l
has_binary declared scope O.Div a b x y t h k l = has_product declared scope O.Div a b x y t R.Over h k l
has_binary declared scope O.Rem a b x y t h k l = has_product declared scope O.Rem a b x y t R.Modulo h k l
has_binary declared scope O.Eq a b x y t h k l = has_equality declared scope O.Eq a b x y t R.Equal h k l
has_binary declared scope O.Ne a b x y t h k l = has_equality declared scope O.Ne a b x y t R.Unequal h k l
has_binary declared scope O.Lt a b x y t h k l = has_comparison declared scope O.Lt a b x y t R.Below h k l
has_binary declared scope O.Le a b x y t h k l = has_comparison declared scope O.Le a b x y t R.AtMost h k l
has_binary declared scope O.Gt a b x y t h k l = has_comparison declared scope O.Gt a b x y t R.Above h k l
has_binary declared scope O.Ge a b x y t h k l = has_comparison declared scope O.Ge a b x y t R.AtLeast h k l
has_binary declared scope O.And a b x y t h k l = has_connective declared scope O.And a b x y t R.Both h k l
has_binary declared scope O.Or a b x y t h k l = has_connective declared scope O.Or a b x y t R.Either h k l

pub has_type : (declared : Declared) (scope : Scope) (e : Expression) (t : Ty) → type_of declared scope e ≡ Passes t → Has declared scope e t
has_type declared scope (Literal v) t h = has_literal declared scope v t h
has_type declared scope (Undefined u) t h = moved declared scope (Undefined u) u t h R.Unknown
has_type declared scope (Named x) t h = has_name declared scope x (type_in declared scope x) t refl h
has_type declared scope (Unary o a) t h =
    let p = passed (type_of declared scope a) (unary_type o) t h in
    has_unary declared scope o a p.0 t p.2 (has_type declared scope a p.0 p.1)
has_type declared scope (Make a b) t h =
    let p = passed (type_of declared scope a) (λ x. type_of declared scope b >>= λ y. make_type x y) t h in
    let q = passed (type_of declared scope b) (make_type p.0) t p.2 in
    let r = passed (must_be T.Int p.0) (λ _. must_be T.Kind q.0 >>= λ _. Passes T.Resource) t q.2 in
    let s = passed (must_be T.Kind q.0) (λ _. Passes T.Resource) t r.2 in
    moved declared scope (Make a b) T.Resource t s.2
    (R.Made (rw (must_one T.Int p.0 r.0 r.1) (has_type declared scope a p.0 p.1)) (rw (must_one T.Kind q.0 s.0 s.1) (has_type declared scope b q.0 q.1)))
has_type declared scope (Binary o a b) t h =
    let p = passed (type_of declared scope a) (λ x. type_of declared scope b >>= λ y. binary_type o x y) t h in
    let q = passed (type_of declared scope b) (binary_type o p.0) t p.2 in
    has_binary declared scope o a b p.0 q.0 t q.2 (has_type declared scope a p.0 p.1) (has_type declared scope b q.0 q.1)
has_type declared scope (If a b c) t h =
    let p = passed (type_of declared scope a) (λ x. type_of declared scope b >>= λ y. type_of declared scope c >>= λ z. if_type x y z) t h in
    let q = passed (type_of declared scope b) (λ y. type_of declared scope c >>= λ z. if_type p.0 y z) t p.2 in
    let r = passed (type_of declared scope c) (if_type p.0 q.0) t q.2 in
    let s = passed (must_be T.Bool p.0) (λ _. must_be q.0 r.0 >>= λ _. Passes q.0) t r.2 in
    let u = passed (must_be q.0 r.0) (λ _. Passes q.0) t s.2 in
    moved declared scope (If a b c) q.0 t u.2
    (R.Choice (rw (must_one T.Bool p.0 s.0 s.1) (has_type declared scope a p.0 p.1)) (has_type declared scope b q.0 q.1)
    (rw (must_one q.0 r.0 u.0 u.1) (has_type declared scope c r.0 r.1)))

-- from the rules to a check that passes

pub type_passes : (declared : Declared) (scope : Scope) (e : Expression) (t : Ty) → Has declared scope e t → type_of declared scope e ≡ Passes t
type_passes declared scope e t R.ANumber = refl
type_passes declared scope e t R.ATruth = refl
type_passes declared scope e t R.ADate = refl
type_passes declared scope e t (R.AnAmount h) = rw h refl
type_passes declared scope e t R.Unknown = refl
type_passes declared scope e t (R.AName h) = rw h refl
type_passes declared scope (Unary Minus a) t (R.Negation h) = rw (type_passes declared scope a T.Int h) refl
type_passes declared scope (Unary Not a) t (R.Denial h) = rw (type_passes declared scope a T.Bool h) refl
type_passes declared scope (Unary AmountOf a) t (R.TheAmount h) = rw (type_passes declared scope a T.Resource h) refl
type_passes declared scope (Unary KindOf a) t (R.TheKind h) = rw (type_passes declared scope a T.Resource h) refl
type_passes declared scope (Make a b) t (R.Made h k) = rw (type_passes declared scope a T.Int h, type_passes declared scope b T.Kind k) refl
type_passes declared scope (Binary o a b) t (R.Sum R.Added Number h k) = rw (type_passes declared scope a T.Int h, type_passes declared scope b T.Int k) refl
type_passes declared scope (Binary o a b) t (R.Sum R.Added ADay h k) = rw (type_passes declared scope a T.Day h, type_passes declared scope b T.Int k) refl
type_passes declared scope (Binary o a b) t (R.Sum R.TakenAway Number h k) = rw (type_passes declared scope a T.Int h, type_passes declared scope b T.Int k) refl
type_passes declared scope (Binary o a b) t (R.Sum R.TakenAway ADay h k) = rw (type_passes declared scope a T.Day h, type_passes declared scope b T.Int k) refl
type_passes declared scope (Binary o a b) t (R.Days h k) = rw (type_passes declared scope a T.Day h, type_passes declared scope b T.Day k) refl
type_passes declared scope (Binary o a b) t (R.Product R.Times h k) = rw (type_passes declared scope a T.Int h, type_passes declared scope b T.Int k) refl
type_passes declared scope (Binary o a b) t (R.Product R.Over h k) = rw (type_passes declared scope a T.Int h, type_passes declared scope b T.Int k) refl
type_passes declared scope (Binary o a b) t (R.Product R.Modulo h k) = rw (type_passes declared scope a T.Int h, type_passes declared scope b T.Int k) refl
type_passes declared scope (Binary o a b) t (R.Connective R.Both h k) = rw (type_passes declared scope a T.Bool h, type_passes declared scope b T.Bool k) refl
type_passes declared scope (Binary o a b) t (R.Connective R.Either h k) = rw (type_passes declared scope a T.Bool h, type_passes declared scope b T.Bool k) refl
type_passes declared scope (Binary o a b) t (R.Equality {t = u} R.Equal h k) = rw (type_passes declared scope a u h, type_passes declared scope b u k, must_be_itself u) refl
type_passes declared scope (Binary o a b) t (R.Equality {t = u} R.Unequal h k) = rw (type_passes declared scope a u h, type_passes declared scope b u k, must_be_itself u) refl
type_passes declared scope (Binary o a b) t (R.Comparison {t = u} is of h k) = rw (type_passes declared scope a u h, type_passes declared scope b u k) (ordered o u is of)
  where
    ordered : (o : Op) (u : Ty) → IsComparison o → IsNumberOrDay u → binary_type o u u ≡ Passes T.Bool
    ordered o u R.Below Number = refl
    ordered o u R.Below ADay = refl
    ordered o u R.AtMost Number = refl
    ordered o u R.AtMost ADay = refl
    ordered o u R.Above Number = refl
    ordered o u R.Above ADay = refl
    ordered o u R.AtLeast Number = refl
    ordered o u R.AtLeast ADay = refl
type_passes declared scope (If a b c) t (R.Choice h k l) = rw (type_passes declared scope a T.Bool h, type_passes declared scope b t k, type_passes declared scope c t l, must_be_itself t) refl

pub types_by_rules : TypesByRules
types_by_rules declared scope e t = (has_type declared scope e t, type_passes declared scope e t)

-- new names

new_name : (used among : Bool) (x : Name) (next : Verdict (Unit {0})) → (if used || among then F.Fails (Twice x) else next) ≡ Passes tt →
    (used ≡ false) × (among ≡ false) × (next ≡ Passes tt)
new_name true among x next h = absurd cc
new_name false true x next h = absurd cc
new_name false false x next h = (refl, refl, h)

pub are_new : (used : Name → Bool) (earlier names : List Name) → check_new used earlier names ≡ Passes tt → AreNew used earlier names
are_new used earlier [] h = R.NoName
are_new used earlier (x ∷ names) h =
    let p = new_name (used x) (is_among earlier x) x (check_new used (x ∷ earlier) names) h in
    R.OneMore p.0 p.1 (are_new used (x ∷ earlier) names p.2)

pub new_passes : (used : Name → Bool) (earlier names : List Name) → AreNew used earlier names → check_new used earlier names ≡ Passes tt
new_passes used earlier [] R.NoName = refl
new_passes used earlier (x ∷ names) (R.OneMore u a n) = rw (u, a) (new_passes used (x ∷ earlier) names n)

-- arguments

pub has_wanted : (declared : Declared) (scope : Scope) (wanted : Ty) (e : Expression) (u : Unit {0}) → check_type declared scope wanted e ≡ Passes u → Has declared scope e wanted
has_wanted declared scope wanted e u h =
    let p = passed (type_of declared scope e) (must_be wanted) u h in
    rw (must_one wanted p.0 u p.2) (has_type declared scope e p.0 p.1)

pub wanted_passes : (declared : Declared) (scope : Scope) (wanted : Ty) (e : Expression) → Has declared scope e wanted → check_type declared scope wanted e ≡ Passes tt
wanted_passes declared scope wanted e h = rw (type_passes declared scope e wanted h, must_be_itself wanted) refl

args_fit : (declared : Declared) (scope : Scope) (params : List Param) (args : List Expression) → length params ≡ length args →
    check_args declared scope params args ≡ Passes tt → Fit declared scope params args
args_fit declared scope [] [] e h = tt
args_fit declared scope [] (a ∷ args) e h = absurd cc
args_fit declared scope (p ∷ params) [] e h = absurd cc
args_fit declared scope (p ∷ params) (a ∷ args) e h =
    let q = passed (check_type declared scope p.ty a) (λ _. check_args declared scope params args) tt h in
    let rest : length params ≡ length args = cc in
    (has_wanted declared scope p.ty a q.0 q.1, args_fit declared scope params args rest q.2)

pub fit_long : (declared : Declared) (scope : Scope) (params : List Param) (args : List Expression) → Fit declared scope params args → length params ≡ length args
fit_long declared scope [] [] f = refl
fit_long declared scope [] (a ∷ args) f = absurd f
fit_long declared scope (p ∷ params) [] f = absurd f
fit_long declared scope (p ∷ params) (a ∷ args) f = ap (λ n. suc n) (fit_long declared scope params args f.1)

args_pass : (declared : Declared) (scope : Scope) (params : List Param) (args : List Expression) → Fit declared scope params args → check_args declared scope params args ≡ Passes tt
args_pass declared scope [] [] f = refl
args_pass declared scope [] (a ∷ args) f = absurd f
args_pass declared scope (p ∷ params) [] f = absurd f
args_pass declared scope (p ∷ params) (a ∷ args) f =
    rw (wanted_passes declared scope p.ty a f.0) (args_pass declared scope params args f.1)

pub fits : (declared : Declared) (scope : Scope) (x : Name) (params : List Param) (args : List Expression) →
    check_arguments declared scope x params args ≡ Passes tt → Fit declared scope params args
fits declared scope x params args h =
    let p = as_many (length params) (length args) (WrongCount x (length params) (length args)) (check_args declared scope params args) h in
    args_fit declared scope params args p.0 p.1

pub arguments_pass : (declared : Declared) (scope : Scope) (x : Name) (params : List Param) (args : List Expression) →
    Fit declared scope params args → check_arguments declared scope x params args ≡ Passes tt
arguments_pass declared scope x params args f =
    rw (eq-eqb (length params) (length args) (fit_long declared scope params args f)) (args_pass declared scope params args f)

-- contracts

applied : (book : Book) (reports : List Name) (scope : Scope) (f : Name) (o : Option Template) (args : List Expression) →
    template_in book.templates f ≡ o → check_application book.declared scope f o args ≡ Passes tt → IsTyped book reports scope (App f args)
applied book reports scope f None args e h = absurd cc
applied book reports scope f (Some t) args e h = R.Applies e (fits book.declared scope f t.params args h)

pub contract_typed : (book : Book) (reports : List Name) (scope : Scope) (c : Contract) → check_contract book reports scope c ≡ Passes tt → IsTyped book reports scope c
contract_typed book reports scope Success h = R.Succeeds
contract_typed book reports scope Failure h = R.Fails
contract_typed book reports scope (Transmit b p c) h =
    let inner = types_bound b ++ scope in
    let q = passed (check_new (in_use book reports) [] (names_bound b)) (λ _. check_type book.declared inner T.Bool p >>= λ _. check_contract book reports inner c) tt h in
    let r = passed (check_type book.declared inner T.Bool p) (λ _. check_contract book reports inner c) tt q.2 in
    R.Transmits (are_new (in_use book reports) [] (names_bound b) q.1) (has_wanted book.declared inner T.Bool p r.0 r.1) (contract_typed book reports inner c r.2)
contract_typed book reports scope (Plus a b) h =
    let p = passed (check_contract book reports scope a) (λ _. check_contract book reports scope b) tt h in
    R.Chooses (contract_typed book reports scope a p.1) (contract_typed book reports scope b p.2)
contract_typed book reports scope (Par a b) h =
    let p = passed (check_contract book reports scope a) (λ _. check_contract book reports scope b) tt h in
    R.Joins (contract_typed book reports scope a p.1) (contract_typed book reports scope b p.2)
contract_typed book reports scope (Seq a b) h =
    let p = passed (check_contract book reports scope a) (λ _. check_contract book reports scope b) tt h in
    R.Follows (contract_typed book reports scope a p.1) (contract_typed book reports scope b p.2)
contract_typed book reports scope (App f args) h = applied book reports scope f (template_in book.templates f) args refl h

pub contract_passes : (book : Book) (reports : List Name) (scope : Scope) (c : Contract) → IsTyped book reports scope c → check_contract book reports scope c ≡ Passes tt
contract_passes book reports scope Success R.Succeeds = refl
contract_passes book reports scope Failure R.Fails = refl
contract_passes book reports scope (Transmit b p c) (R.Transmits n h k) =
    rw (new_passes (in_use book reports) [] (names_bound b) n, wanted_passes book.declared (types_bound b ++ scope) T.Bool p h)
    (contract_passes book reports (types_bound b ++ scope) c k)
contract_passes book reports scope (Plus a b) (R.Chooses h k) = rw (contract_passes book reports scope a h) (contract_passes book reports scope b k)
contract_passes book reports scope (Par a b) (R.Joins h k) = rw (contract_passes book reports scope a h) (contract_passes book reports scope b k)
contract_passes book reports scope (Seq a b) (R.Follows h k) = rw (contract_passes book reports scope a h) (contract_passes book reports scope b k)
contract_passes book reports scope (App f args) (R.Applies {t = t} e fit) = rw e (arguments_pass book.declared scope f t.params args fit)

pub contracts_by_rules : ContractsByRules
contracts_by_rules book reports scope c = (contract_typed book reports scope c, contract_passes book reports scope c)

-- templates and books

pub template_typed : (book : Book) (reports : List Name) (t : Template) → TemplatePasses book reports t → IsTypedTemplate book reports t
template_typed book reports t h = record {
  params = are_new (in_use book reports) [] (map (λ p. p.name) t.params) h.0;
  body = contract_typed book reports (scope_of t.params) t.body h.1;
}

pub template_passes : (book : Book) (reports : List Name) (t : Template) → IsTypedTemplate book reports t → TemplatePasses book reports t
template_passes book reports t r =
    (new_passes (in_use book reports) [] (map (λ p. p.name) t.params) r.params, contract_passes book reports (scope_of t.params) t.body r.body)

pub book_typed : (book : Book) (reports : List Name) → BookPasses book reports → IsTypedBook book reports
book_typed book reports h f t e = template_typed book reports t (h f t e)

pub book_passes : (book : Book) (reports : List Name) → IsTypedBook book reports → BookPasses book reports
book_passes book reports typed f t e = template_passes book reports t (typed f t e)

pub BodiesFit-typed : (book : Book) (reports : List Name) → IsTypedBook book reports → BodiesFit book
BodiesFit-typed book reports typed f t e = ApplicationsFit-typed book reports (scope_of t.params) t.body (book_passes book reports typed f t e).1
