-- The value of a typed expression is undefined or of its type.
use Rattle.std.proofs.Common.{◌≡◌, Bool, true, false, not, [], ◌∷◌, sym, ◌∙◌, subst, Option, Some, None, inl, inr, if◌then◌else◌, ℤ, pos, ◌+ℤ◌, ◌-ℤ◌, ◌*ℤ◌, neg_ℤ}
use Rattle.std.specs.Prelude.{int_div, int_rem, int_lt, int_le}
use Rattle.std.proofs.lemmas.Bool.{eqb-true}
use Rattle.poets_value.specs.declared.value.Name.{Name}
use Rattle.poets_value.specs.declared.value.Ty.{Ty}
use Rattle.poets_value.specs.declared.value.Ty.TheVariants as T
use Rattle.poets_value.specs.declared.value.Value.{Value}
use Rattle.poets_value.specs.declared.value.Value.TheVariants as V
use Rattle.poets_value.specs.Whole.{is_whole, is_day}
use Rattle.poets_expr.specs.declared.expr.Op.{Op}
use Rattle.poets_expr.specs.declared.expr.Op.TheVariants as O
use Rattle.poets_expr.specs.Expression.{UnaryOp, Minus, Not, AmountOf, KindOf, Expression, Literal, Undefined, Named, Unary, Make, Binary, If}
use Rattle.poets_expr.specs.Env.{Declared, Env, same_name, value_in, itself}
use Rattle.poets_expr.specs.Same.{ty_place}
use Rattle.poets_expr.specs.Val.{val, unary, binary, strict, resource_of, chosen, decided, whole, day_at, truth, truth_value, sum, difference, product, divided, ordered, if_equal, equal, bool_eq, int_eq}
use Rattle.poets_expr.specs.Fold.{HasDeclaredNames}
use Rattle.poets_expr.proofs.SameTrees.{ty_one}
use Rattle.poets_expr.proofs.FoldClosed.{known-name, known-val_under}
use Rattle.poets_syntax.specs.TypeOf.{Scope, type_in, Verdict, Passes, Fails, ◌>>=◌, must_be, must_be_number_or_day, same_type, of_one, of_two, unary_type, binary_type, sum_type, difference_type, equal_type, order_type, make_type, if_type, name_type, resource_type, literal_type, type_of}
use Rattle.poets_syntax.specs.code.Passing.{HasType}
use Rattle.poets_syntax.specs.Plain.{WrongType}
use Rattle.poets_syntax.specs.OfType.{value_type, IsOfType, IsTypedEnv}
use Rattle.poets_syntax.proofs.Replacing.{truth as either}
use Rattle.poets_syntax.proofs.Typedness.{passed, kind_declared, HasDeclaredLiterals-typed}

pub must_be-one : (wanted found : Ty) → must_be wanted found ≡ Passes tt → wanted ≡ found
must_be-one wanted found h = elim (either (same_type wanted found)) [
  | inl e ↦ ty_one wanted found (eqb-true (ty_place wanted) (ty_place found) e)
  | inr e ↦ (let j : Fails (WrongType wanted found) ≡ Passes tt = rw e at h in absurd cc)
]

-- the type of a node
of_one-node : (wanted x node t : Ty) → of_one wanted x node ≡ Passes t → node ≡ t
of_one-node wanted x node t h = let p = passed (must_be wanted x) (λ _. Passes node) t h in let q : Passes node ≡ Passes t = p.2 in cc

of_two-node : (wanted x y node t : Ty) → of_two wanted x y node ≡ Passes t → node ≡ t
of_two-node wanted x y node t h =
    let p = passed (must_be wanted x) (λ _. must_be wanted y >>= λ _. Passes node) t h in of_one-node wanted y node t p.2

equal_type-node : (x y t : Ty) → equal_type x y ≡ Passes t → T.Bool ≡ t
equal_type-node x y t h = of_one-node x y T.Bool t h

order_type-node : (x y t : Ty) → order_type x y ≡ Passes t → T.Bool ≡ t
order_type-node x y t h = let p = passed (must_be_number_or_day x) (λ _. equal_type x y) t h in equal_type-node x y t p.2

make_type-node : (x y t : Ty) → make_type x y ≡ Passes t → T.Resource ≡ t
make_type-node x y t h =
    let p = passed (must_be T.Int x) (λ _. must_be T.Kind y >>= λ _. Passes T.Resource) t h in of_one-node T.Kind y T.Resource t p.2

if_type-parts : (x y z t : Ty) → if_type x y z ≡ Passes t → (y ≡ t) × (z ≡ t)
if_type-parts x y z t h =
    let p = passed (must_be T.Bool x) (λ _. must_be y z >>= λ _. Passes y) t h in
    let q = passed (must_be y z) (λ _. Passes y) t p.2 in
    let node : y ≡ t = of_one-node y z y t p.2 in
    (node, sym (must_be-one y z q.1) ∙ node)

-- what the operators give
of-if : (b : Bool) (v : Value) (t : Ty) → value_type v ≡ t → IsOfType (if b then Some v else None) t
of-if true v t h = h
of-if false v t h = tt

of-whole : (z : ℤ) (t : Ty) → T.Int ≡ t → IsOfType (whole z) t
of-whole z t h = of-if (is_whole z) (V.Int z) t h

of-day : (z : ℤ) (t : Ty) → T.Day ≡ t → IsOfType (day_at z) t
of-day z t h = of-if (is_day z) (V.Day z) t h

-- an operator on two values, by its rule for their types
of-strict : (f : Value → Value → Option Value) (rule : Ty → Ty → Verdict Ty) →
    ((v w : Value) (t : Ty) → rule (value_type v) (value_type w) ≡ Passes t → IsOfType (f v w) t) →
    (x y : Option Value) (r s t : Ty) → IsOfType x r → IsOfType y s → rule r s ≡ Passes t → IsOfType (strict f x y) t
of-strict f rule each None y r s t i j h = tt
of-strict f rule each (Some v) None r s t i j h = tt
of-strict f rule each (Some v) (Some w) r s t i j h = each v w t (rw (i, j) h)

of-sum : (v w : Value) (t : Ty) → sum_type (value_type v) (value_type w) ≡ Passes t → IsOfType (sum v w) t
of-sum (V.Int x) (V.Int y) t h = of-whole (x +ℤ y) t (let k : Passes T.Int ≡ Passes t = h in cc)
of-sum (V.Day x) (V.Int y) t h = of-day (x +ℤ y) t (let k : Passes T.Day ≡ Passes t = h in cc)
of-sum _ _ t h = tt

of-difference : (v w : Value) (t : Ty) → difference_type (value_type v) (value_type w) ≡ Passes t → IsOfType (difference v w) t
of-difference (V.Int x) (V.Int y) t h = of-whole (x -ℤ y) t (let k : Passes T.Int ≡ Passes t = h in cc)
of-difference (V.Day x) (V.Int y) t h = of-day (x -ℤ y) t (let k : Passes T.Day ≡ Passes t = h in cc)
of-difference (V.Day x) (V.Day y) t h = of-whole (x -ℤ y) t (let k : Passes T.Int ≡ Passes t = h in cc)
of-difference _ _ t h = tt

of-product : (v w : Value) (t : Ty) → T.Int ≡ t → IsOfType (product v w) t
of-product (V.Int x) (V.Int y) t h = of-whole (x *ℤ y) t h
of-product _ _ t h = tt

of-unless : (b : Bool) (z : ℤ) (t : Ty) → T.Int ≡ t → IsOfType (if b then None else whole z) t
of-unless true z t h = tt
of-unless false z t h = of-whole z t h

of-divided : (f : ℤ → ℤ → ℤ) (v w : Value) (t : Ty) → T.Int ≡ t → IsOfType (divided f v w) t
of-divided f (V.Int x) (V.Int y) t h = of-unless (int_eq y (pos 0)) (f x y) t h
of-divided f _ _ t h = tt

of-ordered : (f : ℤ → ℤ → Bool) (v w : Value) (t : Ty) → T.Bool ≡ t → IsOfType (ordered f v w) t
of-ordered f (V.Int x) (V.Int y) t h = h
of-ordered f (V.Day x) (V.Day y) t h = h
of-ordered f _ _ t h = tt

of-if_equal : (f : Bool → Bool) (o : Option Bool) (t : Ty) → T.Bool ≡ t → IsOfType (if_equal f o) t
of-if_equal f None t h = tt
of-if_equal f (Some b) t h = h

of-truth_value : (o : Option Value) (t : Ty) → T.Bool ≡ t → IsOfType (truth_value o) t
of-truth_value (Some (V.Bool b)) t h = h
of-truth_value _ t h = tt

of-decided : (b : Bool) (x y : Option Value) (t : Ty) → T.Bool ≡ t → IsOfType (decided b x y) t
of-decided b None y t h = tt
of-decided b (Some (V.Bool x)) y t h = first (bool_eq x b)
  where
    first : (c : Bool) → IsOfType (if c then truth b else truth_value y) t
    first true = h
    first false = of-truth_value y t h
of-decided b (Some _) y t h = tt

of-binary : (o : Op) (x y : Option Value) (r s t : Ty) → IsOfType x r → IsOfType y s → binary_type o r s ≡ Passes t → IsOfType (binary o x y) t
of-binary O.Add = of-strict sum sum_type of-sum
of-binary O.Sub = of-strict difference difference_type of-difference
of-binary O.Mul = of-strict product (binary_type O.Mul) (λ v w t h. of-product v w t (of_two-node T.Int (value_type v) (value_type w) T.Int t h))
of-binary O.Div = of-strict (divided int_div) (binary_type O.Div)
    (λ v w t h. of-divided int_div v w t (of_two-node T.Int (value_type v) (value_type w) T.Int t h))
of-binary O.Rem = of-strict (divided int_rem) (binary_type O.Rem)
    (λ v w t h. of-divided int_rem v w t (of_two-node T.Int (value_type v) (value_type w) T.Int t h))
of-binary O.Eq = of-strict (λ u v. if_equal (λ b. b) (equal u v)) equal_type
    (λ v w t h. of-if_equal (λ b. b) (equal v w) t (equal_type-node (value_type v) (value_type w) t h))
of-binary O.Ne = of-strict (λ u v. if_equal not (equal u v)) equal_type
    (λ v w t h. of-if_equal not (equal v w) t (equal_type-node (value_type v) (value_type w) t h))
of-binary O.Lt = of-strict (ordered int_lt) order_type (λ v w t h. of-ordered int_lt v w t (order_type-node (value_type v) (value_type w) t h))
of-binary O.Le = of-strict (ordered int_le) order_type (λ v w t h. of-ordered int_le v w t (order_type-node (value_type v) (value_type w) t h))
of-binary O.Gt = of-strict (ordered (λ a b. int_lt b a)) order_type
    (λ v w t h. of-ordered (λ a b. int_lt b a) v w t (order_type-node (value_type v) (value_type w) t h))
of-binary O.Ge = of-strict (ordered (λ a b. int_le b a)) order_type
    (λ v w t h. of-ordered (λ a b. int_le b a) v w t (order_type-node (value_type v) (value_type w) t h))
of-binary O.And = λ x y r s t i j h. of-decided false x y t (of_two-node T.Bool r s T.Bool t h)
of-binary O.Or = λ x y r s t i j h. of-decided true x y t (of_two-node T.Bool r s T.Bool t h)

of-unary : (o : UnaryOp) (x : Option Value) (s t : Ty) → unary_type o s ≡ Passes t → IsOfType (unary o x) t
of-unary Minus (Some (V.Int n)) s t h = of-whole (neg_ℤ n) t (of_one-node T.Int s T.Int t h)
of-unary Not (Some (V.Bool b)) s t h = of_one-node T.Bool s T.Bool t h
of-unary AmountOf (Some (V.Resource r)) s t h = of_one-node T.Resource s T.Int t h
of-unary KindOf (Some (V.Resource r)) s t h = of_one-node T.Resource s T.Kind t h
of-unary _ _ s t h = tt

of-resource_of : (v w : Value) (t : Ty) → T.Resource ≡ t → IsOfType (resource_of v w) t
of-resource_of (V.Int n) (V.Kind k) t h = h
of-resource_of _ _ t h = tt

of-chosen : (x y z : Option Value) (t : Ty) → IsOfType y t → IsOfType z t → IsOfType (chosen x y z) t
of-chosen (Some (V.Bool true)) y z t i j = i
of-chosen (Some (V.Bool false)) y z t i j = j
of-chosen _ y z t i j = tt

of-literal : (declared : Declared) (v : Value) (t : Ty) → literal_type declared v ≡ Passes t → value_type v ≡ t
of-literal declared (V.Int n) t h = let k : Passes T.Int ≡ Passes t = h in cc
of-literal declared (V.Bool b) t h = let k : Passes T.Bool ≡ Passes t = h in cc
of-literal declared (V.Day d) t h = let k : Passes T.Day ≡ Passes t = h in cc
of-literal declared (V.Agent x) t h = absurd cc
of-literal declared (V.Kind x) t h = absurd cc
of-literal declared (V.Resource r) t h =
    let k : resource_type r.kind (Some T.Kind) ≡ Passes t = rw (kind_declared r.kind (declared r.kind) t h) at h in
    let l : Passes T.Resource ≡ Passes t = k in cc

of-itself : (x : Name) (o : Option Ty) (t : Ty) → name_type x o ≡ Passes t → IsOfType (itself x o) t
of-itself x None t h = tt
of-itself x (Some T.Agent) t h = let k : Passes T.Agent ≡ Passes t = h in cc
of-itself x (Some T.Kind) t h = let k : Passes T.Kind ≡ Passes t = h in cc
of-itself x (Some _) t h = tt

-- a name in the scope has a value of its type
of-name : (declared : Declared) (scope : Scope) (env : Env) → IsTypedEnv declared scope env → (x : Name) (t : Ty) →
    name_type x (type_in declared scope x) ≡ Passes t → IsOfType (value_in declared env x) t
of-name declared [] [] k x t h = of-itself x (declared x) t h
of-name declared [] (p ∷ env) k x t h = absurd k
of-name declared (s ∷ scope) [] k x t h = absurd k
of-name declared (s ∷ scope) (p ∷ env) k x t h =
    let here : s.0 ≡ p.0 = k.0.0 in
    elim (either (same_name p.0 x)) [
      | inl e ↦ (let q : Passes s.1 ≡ Passes t = rw (here, e) at h in let same : s.1 ≡ t = cc in rw e (subst (IsOfType p.1) same k.0.2))
      | inr e ↦ (let q : name_type x (type_in declared scope x) ≡ Passes t = rw (here, e) at h in rw e (of-name declared scope env k.1 x t q))
    ]

pub IsOfType-val : (declared : Declared) (scope : Scope) (env : Env) → IsTypedEnv declared scope env → (e : Expression) (t : Ty) →
    HasType declared scope e t → IsOfType (val declared env e) t
IsOfType-val declared scope env k (Literal v) t h = of-literal declared v t h
IsOfType-val declared scope env k (Undefined u) t h = tt
IsOfType-val declared scope env k (Named x) t h = of-name declared scope env k x t h
IsOfType-val declared scope env k (Unary o a) t h =
    let p = passed (type_of declared scope a) (unary_type o) t h in of-unary o (val declared env a) p.0 t p.2
IsOfType-val declared scope env k (Make a b) t h =
    let p = passed (type_of declared scope a) (λ x. type_of declared scope b >>= λ y. make_type x y) t h in
    let q = passed (type_of declared scope b) (make_type p.0) t p.2 in
    of-strict resource_of make_type (λ v w u m. of-resource_of v w u (make_type-node (value_type v) (value_type w) u m))
    (val declared env a) (val declared env b) p.0 q.0 t (IsOfType-val declared scope env k a p.0 p.1) (IsOfType-val declared scope env k b q.0 q.1) q.2
IsOfType-val declared scope env k (Binary o a b) t h =
    let p = passed (type_of declared scope a) (λ x. type_of declared scope b >>= λ y. binary_type o x y) t h in
    let q = passed (type_of declared scope b) (binary_type o p.0) t p.2 in
    of-binary o (val declared env a) (val declared env b) p.0 q.0 t (IsOfType-val declared scope env k a p.0 p.1) (IsOfType-val declared scope env k b q.0 q.1) q.2
IsOfType-val declared scope env k (If a b c) t h =
    let p = passed (type_of declared scope a) (λ x. type_of declared scope b >>= λ y. type_of declared scope c >>= λ z. if_type x y z) t h in
    let q = passed (type_of declared scope b) (λ y. type_of declared scope c >>= λ z. if_type p.0 y z) t p.2 in
    let r = passed (type_of declared scope c) (if_type p.0 q.0) t q.2 in
    let same = if_type-parts p.0 q.0 r.0 t r.2 in
    of-chosen (val declared env a) (val declared env b) (val declared env c) t
    (subst (IsOfType (val declared env b)) same.0 (IsOfType-val declared scope env k b q.0 q.1)) (subst (IsOfType (val declared env c)) same.1 (IsOfType-val declared scope env k c r.0 r.1))

-- and its agents and kinds are declared
known-in : (declared : Declared) (scope : Scope) (env : Env) → IsTypedEnv declared scope env → (x : Name) → HasDeclaredNames declared (value_in declared env x)
known-in declared [] [] k x = known-name declared x
known-in declared [] (p ∷ env) k x = absurd k
known-in declared (s ∷ scope) [] k x = absurd k
known-in declared (s ∷ scope) (p ∷ env) k x = elim (either (same_name p.0 x)) [
  | inl e ↦ rw e k.0.1
  | inr e ↦ rw e (known-in declared scope env k.1 x)
]

pub HasDeclaredNames-val : (declared : Declared) (scope : Scope) (env : Env) → IsTypedEnv declared scope env → (e : Expression) (t : Ty) →
    HasType declared scope e t → HasDeclaredNames declared (val declared env e)
HasDeclaredNames-val declared scope env k e t h =
    known-val_under declared env (known-in declared scope env k) e (HasDeclaredLiterals-typed declared scope e t h)
