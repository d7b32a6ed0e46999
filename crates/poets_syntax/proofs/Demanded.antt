-- The checks report what the demands of typing report.
use Rattle.std.proofs.Common.{◌≡◌, nat_eq, Bool, true, false, List, [], ◌∷◌, ◌++◌, length, Option, Some, None, refl, ap, sym, ◌∙◌, subst, eq-eqb, inl, inr, append_assoc}
use Rattle.std.specs.Prelude.{◌⊎◌, ◌↔◌, ◌||◌, if◌then◌else◌}
use Rattle.std.proofs.lemmas.Bool.{eqb-true}
use Rattle.std.proofs.lemmas.List.Elements.{All-nil, All-cons, All-head, All-tail, All-append}
use Rattle.poets_value.specs.declared.value.Name.{Name}
use Rattle.poets_value.specs.declared.value.Ty.{Ty}
use Rattle.poets_value.specs.declared.value.Ty.TheVariants as T
use Rattle.poets_value.specs.declared.value.Value.{Value}
use Rattle.poets_value.specs.declared.value.Value.TheVariants as V
use Rattle.poets_expr.specs.declared.expr.Op.{Op}
use Rattle.poets_expr.specs.declared.expr.Op.TheVariants as O
use Rattle.poets_expr.specs.Expression.{UnaryOp, Minus, Not, AmountOf, KindOf, Expression, Literal, Undefined, Named, Unary, Make, Binary, If}
use Rattle.poets_expr.specs.Env.{Declared}
use Rattle.poets_syntax.specs.declared.term.Param.{Param}
use Rattle.poets_syntax.specs.Contract.{Contract, Success, Failure, Transmit, Plus, Par, Seq, App}
use Rattle.poets_syntax.specs.Plain.{Book, Template, TypeCause, Twice, WrongCount, WrongType}
use Rattle.poets_syntax.specs.Plain as plain
use Rattle.poets_syntax.specs.Book.{template_in}
use Rattle.poets_syntax.specs.TypeOf.{Verdict, Passes, Fails, ◌>>=◌, Scope, type_in, same_type, must_be, must_be_number_or_day, unary_type, binary_type, sum_type, difference_type, make_type, if_type, name_type, resource_type, literal_type, type_of}
use Rattle.poets_syntax.specs.Typed.{is_among, in_use, check_new, names_bound, types_bound, check_type, check_args, check_arguments, check_application, check_contract}
use Rattle.poets_syntax.specs.Typing.{IsNumberOrDay, Number, ADay, Has, IsTyped}
use Rattle.poets_syntax.specs.Typing as R
use Rattle.poets_syntax.specs.Demands.{Demand, Known, OfType, NumberOrDay, OneType, TakenFrom, New, AsMany, Never, IsMet, IsCauseOf, AreMet, FirstFault, Here, Later}
use Rattle.poets_syntax.specs.Demands.{declared_demands, literal_demands, unary_demand, binary_demands, demands_of, wanted_demands, new_demands, each_argument, argument_demands, application_demands, contract_demands}
use Rattle.poets_syntax.specs.DemandLaws.{TypesByDemands, TypeFaultsByDemands, ContractsByDemands, ContractFaultsByDemands, OneCause}
use Rattle.poets_syntax.proofs.TypingRules.{same_itself, one_type, has_type, type_passes, contract_typed, contract_passes}

-- ---- one cause

one_type_of : (declared : Declared) (scope : Scope) (e : Expression) (s t : Ty) → Has declared scope e s → Has declared scope e t → s ≡ t
one_type_of declared scope e s t h k = let same : Passes s ≡ Passes t = sym (type_passes declared scope e s h) ∙ type_passes declared scope e t k in cc

one_of : (declared : Declared) (demand : Demand) (cause other : TypeCause) → IsCauseOf declared demand cause → IsCauseOf declared demand other → cause ≡ other
one_of declared (Known scope x) cause other c d = c ∙ sym d
one_of declared (OfType scope wanted e) cause other (s, h, c) (t, k, d) = c ∙ ap (WrongType wanted) (one_type_of declared scope e s t h k) ∙ sym d
one_of declared (NumberOrDay scope e) cause other (s, h, c) (t, k, d) = c ∙ ap (WrongType T.Int) (one_type_of declared scope e s t h k) ∙ sym d
one_of declared (OneType scope a b) cause other (s, s', h, h', c) (t, t', k, k', d) =
    c ∙ ap (λ w. WrongType w s') (one_type_of declared scope a s t h k) ∙ ap (WrongType t) (one_type_of declared scope b s' t' h' k') ∙ sym d
one_of declared (TakenFrom scope a b) cause other (s, h, c) (t, k, d) = c ∙ ap (WrongType T.Int) (one_type_of declared scope b s t h k) ∙ sym d
one_of declared (New used earlier x) cause other c d = c ∙ sym d
one_of declared (AsMany x params args) cause other c d = c ∙ sym d
one_of declared (Never given) cause other c d = c ∙ sym d

pub no_fault : (declared : Declared) (demands : List Demand) (cause : TypeCause) → AreMet declared demands → FirstFault declared demands cause → ⊥
no_fault declared [] cause m f = elim f [ ]
no_fault declared (demand ∷ demands) cause m (Here n c) = n (All-head (IsMet declared) demand demands m)
no_fault declared (demand ∷ demands) cause m (Later k f) = no_fault declared demands cause (All-tail (IsMet declared) demand demands m) f

pub one_fault : (declared : Declared) (demands : List Demand) (cause other : TypeCause) → FirstFault declared demands cause → FirstFault declared demands other → cause ≡ other
one_fault declared [] cause other f g = elim f [ ]
one_fault declared (demand ∷ demands) cause other (Here n c) (Here m d) = one_of declared demand cause other c d
one_fault declared (demand ∷ demands) cause other (Here n c) (Later m f) = absurd (n m)
one_fault declared (demand ∷ demands) cause other (Later m f) (Here n d) = absurd (n m)
one_fault declared (demand ∷ demands) cause other (Later m f) (Later k g) = one_fault declared demands cause other f g

-- ---- checks one after the other

-- where the check passes the demands are met, and else its fault is that of the first that is not
abbrev pub Judged : {A : Type 0} → Declared → List Demand → Verdict A → Type 0
Judged declared demands (Passes a) = AreMet declared demands
Judged declared demands (Fails cause) = FirstFault declared demands cause

abbrev passing : Verdict (Unit {0})
passing = Passes tt

pub none_judged : (declared : Declared) → AreMet declared []
none_judged declared = All-nil (IsMet declared)

met : (declared : Declared) (demand : Demand) → IsMet declared demand → AreMet declared (demand ∷ [])
met declared demand m = All-cons (IsMet declared) demand [] m (All-nil (IsMet declared))

fault_ahead : (declared : Declared) (ahead behind : List Demand) (cause : TypeCause) → FirstFault declared ahead cause → FirstFault declared (ahead ++ behind) cause
fault_ahead declared [] behind cause f = elim f [ ]
fault_ahead declared (demand ∷ ahead) behind cause (Here n c) = Here n c
fault_ahead declared (demand ∷ ahead) behind cause (Later m f) = Later m (fault_ahead declared ahead behind cause f)

fault_behind : (declared : Declared) (ahead behind : List Demand) (cause : TypeCause) → AreMet declared ahead → FirstFault declared behind cause → FirstFault declared (ahead ++ behind) cause
fault_behind declared [] behind cause m f = f
fault_behind declared (demand ∷ ahead) behind cause m f =
    Later (All-head (IsMet declared) demand ahead m) (fault_behind declared ahead behind cause (All-tail (IsMet declared) demand ahead m) f)

met_then : {B : Type 0} (declared : Declared) (ahead behind : List Demand) (w : Verdict B) → AreMet declared ahead → Judged declared behind w → Judged declared (ahead ++ behind) w
met_then declared ahead behind (Passes b) m j = All-append (IsMet declared) ahead behind m j
met_then declared ahead behind (Fails cause) m j = fault_behind declared ahead behind cause m j

pub then_judged : {A B : Type 0} (declared : Declared) (ahead behind : List Demand) (v : Verdict A) (next : A → Verdict B) →
    Judged declared ahead v → ((a : A) → v ≡ Passes a → Judged declared behind (next a)) → Judged declared (ahead ++ behind) (v >>= next)
then_judged declared ahead behind (Passes a) next j k = met_then declared ahead behind (next a) j (k a refl)
then_judged declared ahead behind (Fails cause) next j k = fault_ahead declared ahead behind cause j

pub regrouped : {A : Type 0} (declared : Declared) (xs ys zs : List Demand) (v : Verdict A) → Judged declared (xs ++ (ys ++ zs)) v → Judged declared (xs ++ ys ++ zs) v
regrouped declared xs ys zs v j = subst (λ (demands : List Demand). Judged declared demands v) (sym (append_assoc xs ys zs)) j

-- a check that only its result follows
pub end_judged : {A B : Type 0} (declared : Declared) (demands : List Demand) (v : Verdict A) (b : B) → Judged declared demands v → Judged declared demands (v >>= λ _. Passes b)
end_judged declared demands (Passes a) b j = j
end_judged declared demands (Fails cause) b j = j

-- ---- single demands

differ : (s t : Ty) → same_type s t ≡ false → s ≡ t → ⊥
differ s t e same = let itself = same_itself s in let other : same_type s s ≡ false = subst (λ u. same_type s u ≡ false) (sym same) e in cc

alike : (s t : Ty) → same_type s t ≡ true → s ≡ t
alike s t e = one_type s t (rw e refl)

pub must_judged : (declared : Declared) (scope : Scope) (wanted : Ty) (e : Expression) (x : Ty) → Has declared scope e x → Judged declared (OfType scope wanted e ∷ []) (must_be wanted x)
must_judged declared scope wanted e x h = by (same_type wanted x) refl
  where
    by : (b : Bool) → same_type wanted x ≡ b → Judged declared (OfType scope wanted e ∷ []) (if b then passing else Fails (WrongType wanted x))
    by true same = met declared (OfType scope wanted e) (subst (Has declared scope e) (sym (alike wanted x same)) h)
    by false other = Here (λ k. differ wanted x other (one_type_of declared scope e wanted x k h)) (x, h, refl)

one_judged : (declared : Declared) (scope : Scope) (a b : Expression) (x y : Ty) → Has declared scope a x → Has declared scope b y → Judged declared (OneType scope a b ∷ []) (must_be x y)
one_judged declared scope a b x y h k = by (same_type x y) refl
  where
    by : (c : Bool) → same_type x y ≡ c → Judged declared (OneType scope a b ∷ []) (if c then passing else Fails (WrongType x y))
    by true same = met declared (OneType scope a b) (x, h, subst (Has declared scope b) (sym (alike x y same)) k)
    by false other =
        Here (λ m. differ x y other (one_type_of declared scope a x m.0 h m.1 ∙ one_type_of declared scope b m.0 y m.2 k)) (x, y, h, k, refl)

taken_judged : (declared : Declared) (scope : Scope) (a b : Expression) (x y : Ty) → Has declared scope a x → Has declared scope b y → (x ≡ T.Day → y ≡ T.Day → ⊥) →
    Judged declared (TakenFrom scope a b ∷ []) (must_be T.Int y)
taken_judged declared scope a b x y h k days = by (same_type T.Int y) refl
  where
    unmet : same_type T.Int y ≡ false → IsMet declared (TakenFrom scope a b) → ⊥
    unmet other (inl m) = differ T.Int y other (one_type_of declared scope b T.Int y m k)
    unmet other (inr m) = days (one_type_of declared scope a x T.Day h m.0) (one_type_of declared scope b y T.Day k m.1)

    by : (c : Bool) → same_type T.Int y ≡ c → Judged declared (TakenFrom scope a b ∷ []) (if c then passing else Fails (WrongType T.Int y))
    by true same = met declared (TakenFrom scope a b) (inl (subst (Has declared scope b) (sym (alike T.Int y same)) k))
    by false other = Here (unmet other) (y, k, refl)

number_judged : (declared : Declared) (scope : Scope) (e : Expression) (x : Ty) → Has declared scope e x → Judged declared (NumberOrDay scope e ∷ []) (must_be_number_or_day x)
number_judged declared scope e x h = by x h
  where
    neither : (x : Ty) → Has declared scope e x → (T.Int ≡ x → ⊥) → (T.Day ≡ x → ⊥) → IsMet declared (NumberOrDay scope e) → ⊥
    neither x h int day (t, Number, k) = int (one_type_of declared scope e T.Int x k h)
    neither x h int day (t, ADay, k) = day (one_type_of declared scope e T.Day x k h)

    by : (x : Ty) → Has declared scope e x → Judged declared (NumberOrDay scope e ∷ []) (must_be_number_or_day x)
    by T.Int h = met declared (NumberOrDay scope e) (T.Int, Number, h)
    by T.Day h = met declared (NumberOrDay scope e) (T.Day, ADay, h)
    by T.Bool h = Here (neither T.Bool h (λ e. absurd cc) (λ e. absurd cc)) (T.Bool, h, refl)
    by T.Agent h = Here (neither T.Agent h (λ e. absurd cc) (λ e. absurd cc)) (T.Agent, h, refl)
    by T.Kind h = Here (neither T.Kind h (λ e. absurd cc) (λ e. absurd cc)) (T.Kind, h, refl)
    by T.Resource h = Here (neither T.Resource h (λ e. absurd cc) (λ e. absurd cc)) (T.Resource, h, refl)

pub name_judged : (declared : Declared) (scope : Scope) (x : Name) (o : Option Ty) → type_in declared scope x ≡ o → Judged declared (Known scope x ∷ []) (name_type x o)
name_judged declared scope x None e = Here (λ m. let n = m.1 in cc) refl
name_judged declared scope x (Some t) e = met declared (Known scope x) (t, e)

-- ---- expressions

-- parts of two types
both_judged : (declared : Declared) (scope : Scope) (s t : Ty) (a b : Expression) (x y node : Ty) → Has declared scope a x → Has declared scope b y →
    Judged declared (OfType scope s a ∷ OfType scope t b ∷ []) (must_be s x >>= λ _. must_be t y >>= λ _. Passes node)
both_judged declared scope s t a b x y node h k =
    then_judged declared (OfType scope s a ∷ []) (OfType scope t b ∷ []) (must_be s x) (λ _. must_be t y >>= λ _. Passes node) (must_judged declared scope s a x h)
    (λ _ _. end_judged declared (OfType scope t b ∷ []) (must_be t y) node (must_judged declared scope t b y k))

sum_judged : (declared : Declared) (scope : Scope) (demand : Demand) (a : Expression) (x y : Ty) → Has declared scope a x → Judged declared (demand ∷ []) (must_be T.Int y) →
    Judged declared (NumberOrDay scope a ∷ demand ∷ []) (sum_type x y)
sum_judged declared scope demand a x y h j =
    then_judged declared (NumberOrDay scope a ∷ []) (demand ∷ []) (must_be_number_or_day x) (λ _. must_be T.Int y >>= λ _. Passes x) (number_judged declared scope a x h)
    (λ _ _. end_judged declared (demand ∷ []) (must_be T.Int y) x j)

equal_judged : (declared : Declared) (scope : Scope) (a b : Expression) (x y : Ty) → Has declared scope a x → Has declared scope b y →
    Judged declared (OneType scope a b ∷ []) (must_be x y >>= λ _. Passes T.Bool)
equal_judged declared scope a b x y h k = end_judged declared (OneType scope a b ∷ []) (must_be x y) T.Bool (one_judged declared scope a b x y h k)

order_judged : (declared : Declared) (scope : Scope) (a b : Expression) (x y : Ty) → Has declared scope a x → Has declared scope b y →
    Judged declared (NumberOrDay scope a ∷ OneType scope a b ∷ []) (must_be_number_or_day x >>= λ _. must_be x y >>= λ _. Passes T.Bool)
order_judged declared scope a b x y h k =
    then_judged declared (NumberOrDay scope a ∷ []) (OneType scope a b ∷ []) (must_be_number_or_day x) (λ _. must_be x y >>= λ _. Passes T.Bool) (number_judged declared scope a x h)
    (λ _ _. equal_judged declared scope a b x y h k)

difference_judged : (declared : Declared) (scope : Scope) (a b : Expression) (x y : Ty) → Has declared scope a x → Has declared scope b y →
    Judged declared (NumberOrDay scope a ∷ TakenFrom scope a b ∷ []) (difference_type x y)
difference_judged declared scope a b x y h k = by x y h k
  where
    other : (x y : Ty) → Has declared scope a x → Has declared scope b y → (x ≡ T.Day → y ≡ T.Day → ⊥) →
        Judged declared (NumberOrDay scope a ∷ TakenFrom scope a b ∷ []) (sum_type x y)
    other x y h k days = sum_judged declared scope (TakenFrom scope a b) a x y h (taken_judged declared scope a b x y h k days)

    by : (x y : Ty) → Has declared scope a x → Has declared scope b y → Judged declared (NumberOrDay scope a ∷ TakenFrom scope a b ∷ []) (difference_type x y)
    by T.Day T.Day h k = All-cons (IsMet declared) (NumberOrDay scope a) (TakenFrom scope a b ∷ []) (T.Day, ADay, h) (met declared (TakenFrom scope a b) (inr (h, k)))
    by T.Day T.Int h k = other T.Day T.Int h k (λ e f. absurd cc)
    by T.Day T.Bool h k = other T.Day T.Bool h k (λ e f. absurd cc)
    by T.Day T.Agent h k = other T.Day T.Agent h k (λ e f. absurd cc)
    by T.Day T.Kind h k = other T.Day T.Kind h k (λ e f. absurd cc)
    by T.Day T.Resource h k = other T.Day T.Resource h k (λ e f. absurd cc)
    by T.Int y h k = other T.Int y h k (λ e f. absurd cc)
    by T.Bool y h k = other T.Bool y h k (λ e f. absurd cc)
    by T.Agent y h k = other T.Agent y h k (λ e f. absurd cc)
    by T.Kind y h k = other T.Kind y h k (λ e f. absurd cc)
    by T.Resource y h k = other T.Resource y h k (λ e f. absurd cc)

binary_judged : (declared : Declared) (scope : Scope) (o : Op) (a b : Expression) (x y : Ty) → Has declared scope a x → Has declared scope b y →
    Judged declared (binary_demands scope o a b) (binary_type o x y)
binary_judged declared scope O.Add a b x y h k = sum_judged declared scope (OfType scope T.Int b) a x y h (must_judged declared scope T.Int b y k)
binary_judged declared scope O.Sub a b x y h k = difference_judged declared scope a b x y h k
binary_judged declared scope O.Mul a b x y h k = both_judged declared scope T.Int T.Int a b x y T.Int h k
binary_judged declared scope O.Div a b x y h k = both_judged declared scope T.Int T.Int a b x y T.Int h k
binary_judged declared scope O.Rem a b x y h k = both_judged declared scope T.Int T.Int a b x y T.Int h k
binary_judged declared scope O.Eq a b x y h k = equal_judged declared scope a b x y h k
binary_judged declared scope O.Ne a b x y h k = equal_judged declared scope a b x y h k
binary_judged declared scope O.Lt a b x y h k = order_judged declared scope a b x y h k
binary_judged declared scope O.Le a b x y h k = order_judged declared scope a b x y h k
binary_judged declared scope O.Gt a b x y h k = order_judged declared scope a b x y h k
binary_judged declared scope O.Ge a b x y h k = order_judged declared scope a b x y h k
binary_judged declared scope O.And a b x y h k = both_judged declared scope T.Bool T.Bool a b x y T.Bool h k
binary_judged declared scope O.Or a b x y h k = both_judged declared scope T.Bool T.Bool a b x y T.Bool h k

unary_judged : (declared : Declared) (scope : Scope) (o : UnaryOp) (a : Expression) (x : Ty) → Has declared scope a x → Judged declared (unary_demand scope o a ∷ []) (unary_type o x)
unary_judged declared scope Minus a x h = end_judged declared (OfType scope T.Int a ∷ []) (must_be T.Int x) T.Int (must_judged declared scope T.Int a x h)
unary_judged declared scope Not a x h = end_judged declared (OfType scope T.Bool a ∷ []) (must_be T.Bool x) T.Bool (must_judged declared scope T.Bool a x h)
unary_judged declared scope AmountOf a x h = end_judged declared (OfType scope T.Resource a ∷ []) (must_be T.Resource x) T.Int (must_judged declared scope T.Resource a x h)
unary_judged declared scope KindOf a x h = end_judged declared (OfType scope T.Resource a ∷ []) (must_be T.Resource x) T.Kind (must_judged declared scope T.Resource a x h)

if_judged : (declared : Declared) (scope : Scope) (a b c : Expression) (x y z : Ty) → Has declared scope a x → Has declared scope b y → Has declared scope c z →
    Judged declared (OfType scope T.Bool a ∷ OneType scope b c ∷ []) (if_type x y z)
if_judged declared scope a b c x y z h k l =
    then_judged declared (OfType scope T.Bool a ∷ []) (OneType scope b c ∷ []) (must_be T.Bool x) (λ _. must_be y z >>= λ _. Passes y) (must_judged declared scope T.Bool a x h)
    (λ _ _. end_judged declared (OneType scope b c ∷ []) (must_be y z) y (one_judged declared scope b c y z k l))

kind_judged : (declared : Declared) (x : Name) (o : Option Ty) → declared x ≡ o → Judged declared (declared_demands T.Kind x) (resource_type x o)
kind_judged declared x None e = Here (λ m. let n = m.1 in cc) refl
kind_judged declared x (Some t) e =
    let named : Demand = OfType [] T.Kind (Named x) in
    met_then declared (Known [] x ∷ []) (named ∷ []) (must_be T.Kind t >>= λ _. Passes T.Resource) (met declared (Known [] x) (t, e))
    (end_judged declared (named ∷ []) (must_be T.Kind t) T.Resource (must_judged declared [] T.Kind (Named x) t (R.AName e)))

literal_judged : (declared : Declared) (v : Value) → Judged declared (literal_demands v) (literal_type declared v)
literal_judged declared (V.Int n) = none_judged declared
literal_judged declared (V.Bool b) = none_judged declared
literal_judged declared (V.Day d) = none_judged declared
literal_judged declared (V.Resource r) = kind_judged declared r.kind (declared r.kind) refl
literal_judged declared (V.Agent x) = Here (λ m. m) refl
literal_judged declared (V.Kind x) = Here (λ m. m) refl

pub type_judged : (declared : Declared) (scope : Scope) (e : Expression) → Judged declared (demands_of scope e) (type_of declared scope e)
type_judged declared scope (Literal v) = literal_judged declared v
type_judged declared scope (Undefined t) = none_judged declared
type_judged declared scope (Named x) = name_judged declared scope x (type_in declared scope x) refl
type_judged declared scope (Unary o a) =
    then_judged declared (demands_of scope a) (unary_demand scope o a ∷ []) (type_of declared scope a) (unary_type o) (type_judged declared scope a)
    (λ x h. unary_judged declared scope o a x (has_type declared scope a x h))
type_judged declared scope (Make a b) =
    let node : List Demand = OfType scope T.Int a ∷ OfType scope T.Kind b ∷ [] in
    regrouped declared (demands_of scope a) (demands_of scope b) node (type_of declared scope (Make a b))
    (then_judged declared (demands_of scope a) (demands_of scope b ++ node) (type_of declared scope a) (λ x. type_of declared scope b >>= λ y. make_type x y) (type_judged declared scope a)
    (λ x h. then_judged declared (demands_of scope b) node (type_of declared scope b) (make_type x) (type_judged declared scope b)
    (λ y k. both_judged declared scope T.Int T.Kind a b x y T.Resource (has_type declared scope a x h) (has_type declared scope b y k))))
type_judged declared scope (Binary o a b) =
    let node : List Demand = binary_demands scope o a b in
    regrouped declared (demands_of scope a) (demands_of scope b) node (type_of declared scope (Binary o a b))
    (then_judged declared (demands_of scope a) (demands_of scope b ++ node) (type_of declared scope a) (λ x. type_of declared scope b >>= λ y. binary_type o x y) (type_judged declared scope a)
    (λ x h. then_judged declared (demands_of scope b) node (type_of declared scope b) (binary_type o x) (type_judged declared scope b)
    (λ y k. binary_judged declared scope o a b x y (has_type declared scope a x h) (has_type declared scope b y k))))
type_judged declared scope (If a b c) =
    let node : List Demand = OfType scope T.Bool a ∷ OneType scope b c ∷ [] in
    regrouped declared (demands_of scope a ++ demands_of scope b) (demands_of scope c) node (type_of declared scope (If a b c))
    (regrouped declared (demands_of scope a) (demands_of scope b) (demands_of scope c ++ node) (type_of declared scope (If a b c))
    (then_judged declared (demands_of scope a) (demands_of scope b ++ (demands_of scope c ++ node)) (type_of declared scope a)
    (λ x. type_of declared scope b >>= λ y. type_of declared scope c >>= λ z. if_type x y z) (type_judged declared scope a)
    (λ x h. then_judged declared (demands_of scope b) (demands_of scope c ++ node) (type_of declared scope b) (λ y. type_of declared scope c >>= λ z. if_type x y z) (type_judged declared scope b)
    (λ y k. then_judged declared (demands_of scope c) node (type_of declared scope c) (if_type x y) (type_judged declared scope c)
    (λ z l. if_judged declared scope a b c x y z (has_type declared scope a x h) (has_type declared scope b y k) (has_type declared scope c z l))))))

pub wanted_judged : (declared : Declared) (scope : Scope) (wanted : Ty) (e : Expression) → Judged declared (wanted_demands scope wanted e) (check_type declared scope wanted e)
wanted_judged declared scope wanted e =
    then_judged declared (demands_of scope e) (OfType scope wanted e ∷ []) (type_of declared scope e) (must_be wanted) (type_judged declared scope e)
    (λ x h. must_judged declared scope wanted e x (has_type declared scope e x h))

-- ---- contracts

pub new_judged : (declared : Declared) (used : Name → Bool) (earlier names : List Name) → Judged declared (new_demands used earlier names) (check_new used earlier names)
new_judged declared used earlier [] = none_judged declared
new_judged declared used earlier (x ∷ names) = by (used x) (is_among earlier x) refl refl (new_judged declared used (x ∷ earlier) names)
  where
    by : (u a : Bool) → used x ≡ u → is_among earlier x ≡ a → Judged declared (new_demands used (x ∷ earlier) names) (check_new used (x ∷ earlier) names) →
        Judged declared (New used earlier x ∷ new_demands used (x ∷ earlier) names) (if u || a then Fails (Twice x) else check_new used (x ∷ earlier) names)
    by true a e f j = Here (λ m. let n = m.0 in cc) refl
    by false true e f j = Here (λ m. let n = m.1 in cc) refl
    by false false e f j = met_then declared (New used earlier x ∷ []) (new_demands used (x ∷ earlier) names) (check_new used (x ∷ earlier) names) (met declared (New used earlier x) (e, f)) j

each_judged : (declared : Declared) (scope : Scope) (params : List Param) (args : List Expression) → Judged declared (each_argument scope params args) (check_args declared scope params args)
each_judged declared scope [] args = none_judged declared
each_judged declared scope (p ∷ params) [] = none_judged declared
each_judged declared scope (p ∷ params) (a ∷ args) =
    then_judged declared (wanted_demands scope p.ty a) (each_argument scope params args) (check_type declared scope p.ty a) (λ _. check_args declared scope params args)
    (wanted_judged declared scope p.ty a) (λ _ _. each_judged declared scope params args)

pub arguments_judged : (declared : Declared) (scope : Scope) (x : Name) (params : List Param) (args : List Expression) →
    Judged declared (argument_demands scope x params args) (check_arguments declared scope x params args)
arguments_judged declared scope x params args = by (nat_eq (length params) (length args)) refl
  where
    by : (b : Bool) → nat_eq (length params) (length args) ≡ b →
        Judged declared (AsMany x params args ∷ each_argument scope params args) (if b then check_args declared scope params args else Fails (WrongCount x (length params) (length args)))
    by true e =
        met_then declared (AsMany x params args ∷ []) (each_argument scope params args) (check_args declared scope params args)
        (met declared (AsMany x params args) (eqb-true (length params) (length args) e)) (each_judged declared scope params args)
    by false e = Here (λ same. let equal = eq-eqb (length params) (length args) same in cc) refl

application_judged : (declared : Declared) (scope : Scope) (f : Name) (o : Option Template) (args : List Expression) →
    Judged declared (application_demands scope f o args) (check_application declared scope f o args)
application_judged declared scope f None args = Here (λ m. m) refl
application_judged declared scope f (Some t) args = arguments_judged declared scope f t.params args

pub contract_judged : (book : Book) (reports : List Name) (scope : Scope) (c : Contract) → Judged book.declared (contract_demands book reports scope c) (check_contract book reports scope c)
contract_judged book reports scope Success = none_judged book.declared
contract_judged book reports scope Failure = none_judged book.declared
contract_judged book reports scope (Transmit b p c) =
    let inner = types_bound b ++ scope in
    let fresh = new_demands (in_use book reports) [] (names_bound b) in
    let condition = wanted_demands inner T.Bool p in
    let behind = contract_demands book reports inner c in
    regrouped book.declared fresh condition behind (check_contract book reports scope (Transmit b p c))
    (then_judged book.declared fresh (condition ++ behind) (check_new (in_use book reports) [] (names_bound b))
    (λ _. check_type book.declared inner T.Bool p >>= λ _. check_contract book reports inner c) (new_judged book.declared (in_use book reports) [] (names_bound b))
    (λ _ _. then_judged book.declared condition behind (check_type book.declared inner T.Bool p) (λ _. check_contract book reports inner c) (wanted_judged book.declared inner T.Bool p)
    (λ _ _. contract_judged book reports inner c)))
contract_judged book reports scope (Plus a b) =
    then_judged book.declared (contract_demands book reports scope a) (contract_demands book reports scope b) (check_contract book reports scope a) (λ _. check_contract book reports scope b)
    (contract_judged book reports scope a) (λ _ _. contract_judged book reports scope b)
contract_judged book reports scope (Par a b) =
    then_judged book.declared (contract_demands book reports scope a) (contract_demands book reports scope b) (check_contract book reports scope a) (λ _. check_contract book reports scope b)
    (contract_judged book reports scope a) (λ _ _. contract_judged book reports scope b)
contract_judged book reports scope (Seq a b) =
    then_judged book.declared (contract_demands book reports scope a) (contract_demands book reports scope b) (check_contract book reports scope a) (λ _. check_contract book reports scope b)
    (contract_judged book reports scope a) (λ _ _. contract_judged book reports scope b)
contract_judged book reports scope (App f args) = application_judged book.declared scope f (template_in book.templates f) args

-- ---- what is reported

pub faults_judged : {A : Type 0} (declared : Declared) (demands : List Demand) (v : Verdict A) (cause : TypeCause) → Judged declared demands v → v ≡ Fails cause ↔ FirstFault declared demands cause
faults_judged {A} declared demands v cause j = (λ e. subst (λ w. Judged declared demands w) e j, λ f. told v j f)
  where
    told : (w : Verdict A) → Judged declared demands w → FirstFault declared demands cause → w ≡ Fails cause
    told (Passes a) j f = absurd (no_fault declared demands cause j f)
    told (Fails other) j f = ap (λ c. Fails c) (one_fault declared demands other cause j f)

pub met_passes : {A : Type 0} (declared : Declared) (demands : List Demand) (v : Verdict A) → Judged declared demands v → AreMet declared demands → (a : A) × (v ≡ Passes a)
met_passes declared demands (Passes a) j m = (a, refl)
met_passes declared demands (Fails cause) j m = absurd (no_fault declared demands cause m j)

pub passes_met : {A : Type 0} (declared : Declared) (demands : List Demand) (v : Verdict A) (a : A) → Judged declared demands v → v ≡ Passes a → AreMet declared demands
passes_met declared demands v a j e = subst (λ w. Judged declared demands w) e j

pub types_by_demands : TypesByDemands
types_by_demands declared scope e = (
  λ h. passes_met declared (demands_of scope e) (type_of declared scope e) h.0 (type_judged declared scope e) (type_passes declared scope e h.0 h.1),
  λ m. let p = met_passes declared (demands_of scope e) (type_of declared scope e) (type_judged declared scope e) m in (p.0, has_type declared scope e p.0 p.1),
)

pub type_faults_by_demands : TypeFaultsByDemands
type_faults_by_demands declared scope e cause = faults_judged declared (demands_of scope e) (type_of declared scope e) cause (type_judged declared scope e)

pub contracts_by_demands : ContractsByDemands
contracts_by_demands book reports scope c = (
  λ h. passes_met book.declared (contract_demands book reports scope c) (check_contract book reports scope c) tt (contract_judged book reports scope c) (contract_passes book reports scope c h),
  λ m. contract_typed book reports scope c (passed (met_passes book.declared (contract_demands book reports scope c) (check_contract book reports scope c) (contract_judged book reports scope c) m)),
)
  where
    passed : (a : Unit {0}) × (check_contract book reports scope c ≡ Passes a) → check_contract book reports scope c ≡ Passes tt
    passed (tt, e) = e

pub contract_faults_by_demands : ContractFaultsByDemands
contract_faults_by_demands book reports scope c cause =
    faults_judged book.declared (contract_demands book reports scope c) (check_contract book reports scope c) cause (contract_judged book reports scope c)

pub one_cause : OneCause
one_cause = record { one = one_fault; none = no_fault }
