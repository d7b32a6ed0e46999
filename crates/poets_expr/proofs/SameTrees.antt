-- The tests for equal trees are right.
use Rattle.std.proofs.Common.{eq-eqb, IsTrue, ◌↔◌, ◌≡◌, ℕ, zero, suc, Bool, true, false, ◌&&◌, nat_eq, refl, sym, ◌∙◌, ap, ap₂, ℤ, pos, negsuc}
use Rattle.std.proofs.lemmas.Bool.{eqb-true}
use Rattle.poets_value.specs.declared.value.Name.{Name}
use Rattle.poets_value.specs.declared.value.Ty.{Ty}
use Rattle.poets_value.specs.declared.value.Ty.TheVariants as T
use Rattle.poets_value.specs.declared.value.Value.{Value}
use Rattle.poets_value.specs.declared.value.Value.TheVariants as V
use Rattle.poets_expr.specs.declared.expr.Op.{Op}
use Rattle.poets_expr.specs.declared.expr.Op.TheVariants as O
use Rattle.poets_expr.specs.Expression.{UnaryOp, Minus, Not, AmountOf, KindOf, Expression, Literal, Undefined, Named, Unary, Make, Binary, If}
use Rattle.poets_expr.specs.Env.{same_name}
use Rattle.poets_expr.specs.Val.{same_value, int_eq, bool_eq}
use Rattle.poets_expr.specs.Same.{same, op_place, ty_place, unary_place}

pub both_true : (a b : Bool) → (a && b) ≡ true → (a ≡ true) × (b ≡ true)
both_true true b e = (refl, e)
both_true false b e = absurd cc

op_at : ℕ → Op
op_at zero = O.Add
op_at (suc zero) = O.Sub
op_at (suc (suc zero)) = O.Mul
op_at (suc (suc (suc zero))) = O.Div
op_at (suc (suc (suc (suc zero)))) = O.Rem
op_at (suc (suc (suc (suc (suc zero))))) = O.Eq
op_at (suc (suc (suc (suc (suc (suc zero)))))) = O.Ne
op_at (suc (suc (suc (suc (suc (suc (suc zero))))))) = O.Lt
op_at (suc (suc (suc (suc (suc (suc (suc (suc zero)))))))) = O.Le
op_at (suc (suc (suc (suc (suc (suc (suc (suc (suc zero))))))))) = O.Gt
op_at (suc (suc (suc (suc (suc (suc (suc (suc (suc (suc zero)))))))))) = O.Ge
op_at (suc (suc (suc (suc (suc (suc (suc (suc (suc (suc (suc zero))))))))))) = O.And
op_at (suc (suc (suc (suc (suc (suc (suc (suc (suc (suc (suc (suc n)))))))))))) = O.Or

op_at-place : (o : Op) → op_at (op_place o) ≡ o
unfolding op_at
op_at-place O.Add = refl
op_at-place O.Sub = refl
op_at-place O.Mul = refl
op_at-place O.Div = refl
op_at-place O.Rem = refl
op_at-place O.Eq = refl
op_at-place O.Ne = refl
op_at-place O.Lt = refl
op_at-place O.Le = refl
op_at-place O.Gt = refl
op_at-place O.Ge = refl
op_at-place O.And = refl
op_at-place O.Or = refl

pub op_one : (a b : Op) → op_place a ≡ op_place b → a ≡ b
op_one a b e = sym (op_at-place a) ∙ ap op_at e ∙ op_at-place b

pub ty_one : (a b : Ty) → ty_place a ≡ ty_place b → a ≡ b
ty_one T.Int T.Int e = refl
ty_one T.Bool T.Bool e = refl
ty_one T.Agent T.Agent e = refl
ty_one T.Kind T.Kind e = refl
ty_one T.Resource T.Resource e = refl
ty_one T.Day T.Day e = refl
ty_one _ _ e = absurd cc

pub unary_one : (a b : UnaryOp) → unary_place a ≡ unary_place b → a ≡ b
unary_one Minus Minus e = refl
unary_one Not Not e = refl
unary_one AmountOf AmountOf e = refl
unary_one KindOf KindOf e = refl
unary_one _ _ e = absurd cc

pub name_one : (x y : Name) → same_name x y ≡ true → x ≡ y
name_one x y e = let h = eqb-true x.id y.id e in λ i. record { id = h i }

int_one : (x y : ℤ) → int_eq x y ≡ true → x ≡ y
int_one (pos m) (pos n) e = ap pos (eqb-true m n e)
int_one (negsuc m) (negsuc n) e = ap negsuc (eqb-true m n e)
int_one (pos m) (negsuc n) e = absurd cc
int_one (negsuc m) (pos n) e = absurd cc

int_itself : (x : ℤ) → int_eq x x ≡ true
int_itself (pos n) = eq-eqb n n refl
int_itself (negsuc n) = eq-eqb n n refl

bool_itself : (b : Bool) → bool_eq b b ≡ true
bool_itself true = refl
bool_itself false = refl

bool_one : (x y : Bool) → bool_eq x y ≡ true → x ≡ y
bool_one true y e = sym e
bool_one false true e = absurd cc
bool_one false false e = refl

pub value_one : (v w : Value) → same_value v w ≡ true → v ≡ w
value_one (V.Int x) (V.Int y) e = ap V.Int (int_one x y e)
value_one (V.Bool x) (V.Bool y) e = ap V.Bool (bool_one x y e)
value_one (V.Agent x) (V.Agent y) e = ap V.Agent (name_one x y e)
value_one (V.Kind x) (V.Kind y) e = ap V.Kind (name_one x y e)
value_one (V.Resource x) (V.Resource y) e =
    let h = both_true (int_eq x.amount y.amount) (same_name x.kind y.kind) e in
    let a = int_one x.amount y.amount h.0 in
    let k = name_one x.kind y.kind h.1 in
    λ i. V.Resource (record { amount = a i; kind = k i })
value_one (V.Day x) (V.Day y) e = let h = int_one x y e in λ i. V.Day (h i)
value_one _ _ e = absurd cc

-- equal trees by the test are equal
pub same_one : (a b : Expression) → same a b ≡ true → a ≡ b
same_one (Literal v) (Literal w) e = ap Literal (value_one v w e)
same_one (Undefined t) (Undefined u) e = ap Undefined (ty_one t u (eqb-true (ty_place t) (ty_place u) e))
same_one (Named x) (Named y) e = ap Named (name_one x y e)
same_one (Unary o a) (Unary p b) e =
    let h = both_true (nat_eq (unary_place o) (unary_place p)) (same a b) e in
    ap₂ Unary (unary_one o p (eqb-true (unary_place o) (unary_place p) h.0)) (same_one a b h.1)
same_one (Make a b) (Make c d) e =
    let h = both_true (same a c) (same b d) e in
    ap₂ Make (same_one a c h.0) (same_one b d h.1)
same_one (Binary o a b) (Binary p c d) e =
    let h = both_true (nat_eq (op_place o) (op_place p) && same a c) (same b d) e in
    let k = both_true (nat_eq (op_place o) (op_place p)) (same a c) h.0 in
    let i = op_one o p (eqb-true (op_place o) (op_place p) k.0) in
    let j = same_one a c k.1 in
    let l = same_one b d h.1 in
    cc
same_one (If a b c) (If d e f) q =
    let h = both_true (same a d && same b e) (same c f) q in
    let k = both_true (same a d) (same b e) h.0 in
    let i = same_one a d k.0 in
    let j = same_one b e k.1 in
    let l = same_one c f h.1 in
    cc
same_one _ _ e = absurd cc

nat_itself : (n : ℕ) → nat_eq n n ≡ true
nat_itself n = eq-eqb n n refl

value_itself : (v : Value) → same_value v v ≡ true
value_itself (V.Int n) = int_itself n
value_itself (V.Bool b) = bool_itself b
value_itself (V.Agent x) = nat_itself x.id
value_itself (V.Kind x) = nat_itself x.id
value_itself (V.Resource r) = rw (int_itself r.amount, nat_itself r.kind.id) refl
value_itself (V.Day d) = int_itself d

-- a tree is equal to itself by the test
pub same_itself : (e : Expression) → same e e ≡ true
same_itself (Literal v) = value_itself v
same_itself (Undefined t) = nat_itself (ty_place t)
same_itself (Named x) = nat_itself x.id
same_itself (Unary o a) = rw (nat_itself (unary_place o), same_itself a) refl
same_itself (Make a b) = rw (same_itself a, same_itself b) refl
same_itself (Binary o a b) = rw (nat_itself (op_place o), same_itself a, same_itself b) refl
same_itself (If a b c) = rw (same_itself a, same_itself b, same_itself c) refl

-- the test is true of equal trees alone
pub same_iff : (a b : Expression) → IsTrue (same a b) ↔ (a ≡ b)
same_iff a b = (same_one a b, λ e. ap (same a) (sym e) ∙ same_itself a)
