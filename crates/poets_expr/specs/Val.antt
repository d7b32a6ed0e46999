-- The value of an expression.
use Rattle.std.specs.Prelude.{Bool, true, false, not, ◌&&◌, nat_eq, ℤ, pos, negsuc, ◌+ℤ◌, ◌-ℤ◌}
use Rattle.std.specs.Prelude.{◌*ℤ◌, neg_ℤ, int_lt}
use Rattle.std.specs.Prelude.{int_le, int_div, int_rem, Option, Some, None, unwrap_or}
use Rattle.std.specs.Prelude.{if◌then◌else◌}
use Rattle.poets_value.specs.declared.value.Value.{Value}
use Rattle.poets_value.specs.declared.value.Value.TheVariants as V
use Rattle.poets_value.specs.Whole.{is_whole, is_day}
use Rattle.poets_expr.specs.declared.expr.Op.{Op}
use Rattle.poets_expr.specs.declared.expr.Op.TheVariants as O
use Rattle.poets_expr.specs.Expression.{UnaryOp, Minus, Not, AmountOf, KindOf, Expression, Literal}
use Rattle.poets_expr.specs.Expression.{Undefined, Named}
use Rattle.poets_expr.specs.Expression.{Unary, Make, Binary, If}
use Rattle.poets_expr.specs.Env.{Declared, Env, value_in, same_name}

-- the number, undefined where it is no whole number of the language
abbrev pub whole : ℤ → Option Value
whole z = if is_whole z then Some (V.Int z) else None

-- the day with this number, undefined where there is none
abbrev pub day_at : ℤ → Option Value
day_at z = if is_day z then Some (V.Day z) else None

-- a truth value
abbrev pub truth : Bool → Option Value
truth b = Some (V.Bool b)

-- whether two numbers are equal
abbrev pub int_eq : ℤ → ℤ → Bool
int_eq (pos m) (pos n) = nat_eq m n
int_eq (negsuc m) (negsuc n) = nat_eq m n
int_eq (pos m) (negsuc n) = false
int_eq (negsuc m) (pos n) = false

-- whether two truth values are equal
abbrev pub bool_eq : Bool → Bool → Bool
bool_eq true b = b
bool_eq false b = not b

-- whether two values of one type are equal; undefined for values of two types
abbrev pub equal : Value → Value → Option Bool
equal (V.Int x) (V.Int y) = Some (int_eq x y)
equal (V.Bool x) (V.Bool y) = Some (bool_eq x y)
equal (V.Agent x) (V.Agent y) = Some (same_name x y)
equal (V.Kind x) (V.Kind y) = Some (same_name x y)
equal (V.Resource x) (V.Resource y) = Some (int_eq x.amount y.amount && same_name x.kind y.kind)
equal (V.Day x) (V.Day y) = Some (int_eq x y)
equal _ _ = None

-- whether two values are the same
abbrev pub same_value : Value → Value → Bool
same_value v w = unwrap_or (equal v w) false

-- two numbers or two days compared by a test on their numbers; undefined for other values
abbrev pub ordered : (ℤ → ℤ → Bool) → Value → Value → Option Value
ordered test (V.Int x) (V.Int y) = truth (test x y)
ordered test (V.Day x) (V.Day y) = truth (test x y)
ordered test _ _ = None

-- a truth value made of the answer whether two values are equal
abbrev pub if_equal : (Bool → Bool) → Option Bool → Option Value
if_equal f None = None
if_equal f (Some b) = truth (f b)

-- `x + y` of numbers, and of a day and a number of days
abbrev pub sum : Value → Value → Option Value
sum (V.Int x) (V.Int y) = whole (x +ℤ y)
sum (V.Day x) (V.Int y) = day_at (x +ℤ y)
sum _ _ = None

-- `x - y` of numbers, of a day and a number of days, and of two days
abbrev pub difference : Value → Value → Option Value
difference (V.Int x) (V.Int y) = whole (x -ℤ y)
difference (V.Day x) (V.Int y) = day_at (x -ℤ y)
difference (V.Day x) (V.Day y) = whole (x -ℤ y)
difference _ _ = None

-- `x * y`
abbrev pub product : Value → Value → Option Value
product (V.Int x) (V.Int y) = whole (x *ℤ y)
product _ _ = None

-- `x / y` by `int_div`, which cuts towards zero, and `x % y` by `int_rem`, which has the sign of x;
-- undefined where y is zero
abbrev pub divided : (ℤ → ℤ → ℤ) → Value → Value → Option Value
divided f (V.Int x) (V.Int y) = if int_eq y (pos 0) then None else whole (f x y)
divided f _ _ = None

-- the value of an operator of two operands, undefined where one of them is
abbrev pub strict : (Value → Value → Option Value) → Option Value → Option Value → Option Value
strict f None y = None
strict f (Some x) None = None
strict f (Some x) (Some y) = f x y

-- the truth value, undefined for a value of another type
abbrev pub truth_value : Option Value → Option Value
truth_value (Some (V.Bool b)) = truth b
truth_value _ = None

-- `and` with b = false, and `or` with b = true: b where the first part is b, and otherwise the
-- second part
abbrev pub decided : Bool → Option Value → Option Value → Option Value
decided b None y = None
decided b (Some (V.Bool x)) y = if bool_eq x b then truth b else truth_value y
decided b (Some _) y = None

-- the value of an operator at its operands' values
abbrev pub binary : Op → Option Value → Option Value → Option Value
binary O.Add x y = strict sum x y
binary O.Sub x y = strict difference x y
binary O.Mul x y = strict product x y
binary O.Div x y = strict (divided int_div) x y
binary O.Rem x y = strict (divided int_rem) x y
binary O.Eq x y = strict (λ u v. if_equal (λ b. b) (equal u v)) x y
binary O.Ne x y = strict (λ u v. if_equal not (equal u v)) x y
binary O.Lt x y = strict (ordered int_lt) x y
binary O.Le x y = strict (ordered int_le) x y
binary O.Gt x y = strict (ordered (λ a b. int_lt b a)) x y
binary O.Ge x y = strict (ordered (λ a b. int_le b a)) x y
binary O.And x y = decided false x y
binary O.Or x y = decided true x y

-- `res(x, y)`
abbrev pub resource_of : Value → Value → Option Value
resource_of (V.Int n) (V.Kind k) = Some (V.Resource (record { amount = n; kind = k }))
resource_of _ _ = None

-- `-x`, `not x`, `amount(x)`, `kind(x)`
abbrev pub unary : UnaryOp → Option Value → Option Value
unary Minus (Some (V.Int n)) = whole (neg_ℤ n)
unary Not (Some (V.Bool b)) = truth (not b)
unary AmountOf (Some (V.Resource r)) = Some (V.Int r.amount)
unary KindOf (Some (V.Resource r)) = Some (V.Kind r.kind)
unary _ _ = None

-- `if`: the chosen part alone
abbrev pub chosen : Option Value → Option Value → Option Value → Option Value
chosen (Some (V.Bool true)) y z = y
chosen (Some (V.Bool false)) y z = z
chosen _ y z = None

-- the value of an expression, or none where it is undefined
abbrev pub val : Declared → Env → Expression → Option Value
val declared env (Literal v) = Some v
val declared env (Undefined t) = None
val declared env (Named x) = value_in declared env x
val declared env (Unary o a) = unary o (val declared env a)
val declared env (Make a b) = strict resource_of (val declared env a) (val declared env b)
val declared env (Binary o a b) = binary o (val declared env a) (val declared env b)
val declared env (If a b c) = chosen (val declared env a) (val declared env b) (val declared env c)
