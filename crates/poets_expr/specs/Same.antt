-- The test whether two trees are equal.
use Rattle.std.specs.Prelude.{ℕ, Bool, false, ◌&&◌, nat_eq}
use Rattle.poets_value.specs.declared.value.Ty.{Ty}
use Rattle.poets_value.specs.declared.value.Ty.TheVariants as T
use Rattle.poets_expr.specs.declared.expr.Op.{Op}
use Rattle.poets_expr.specs.declared.expr.Op.TheVariants as O
use Rattle.poets_expr.specs.Expression.{UnaryOp, Minus, Not, AmountOf, KindOf, Expression, Literal}
use Rattle.poets_expr.specs.Expression.{Undefined, Named}
use Rattle.poets_expr.specs.Expression.{Unary, Make, Binary, If}
use Rattle.poets_expr.specs.Env.{same_name}
use Rattle.poets_expr.specs.Val.{same_value}

-- the place of an operator of two operands among them all
abbrev pub op_place : Op → ℕ
op_place O.Add = 0
op_place O.Sub = 1
op_place O.Mul = 2
op_place O.Div = 3
op_place O.Rem = 4
op_place O.Eq = 5
op_place O.Ne = 6
op_place O.Lt = 7
op_place O.Le = 8
op_place O.Gt = 9
op_place O.Ge = 10
op_place O.And = 11
op_place O.Or = 12

-- the place of a type among the types
abbrev pub ty_place : Ty → ℕ
ty_place T.Int = 0
ty_place T.Bool = 1
ty_place T.Agent = 2
ty_place T.Kind = 3
ty_place T.Resource = 4
ty_place T.Day = 5

-- the place of an operator of one operand among them all
abbrev pub unary_place : UnaryOp → ℕ
unary_place Minus = 0
unary_place Not = 1
unary_place AmountOf = 2
unary_place KindOf = 3

-- true exactly of equal trees, as the contract of the function `same` says
abbrev pub same : Expression → Expression → Bool
same (Literal v) (Literal w) = same_value v w
same (Undefined t) (Undefined u) = nat_eq (ty_place t) (ty_place u)
same (Named x) (Named y) = same_name x y
same (Unary o a) (Unary p b) = nat_eq (unary_place o) (unary_place p) && same a b
same (Make a b) (Make c d) = same a c && same b d
same (Binary o a b) (Binary p c d) = nat_eq (op_place o) (op_place p) && same a c && same b d
same (If a b c) (If d e f) = same a d && same b e && same c f
same _ _ = false
