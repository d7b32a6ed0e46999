-- The types of expressions, or the first fault.
use Rattle.std.specs.Prelude.{nat_eq, Bool, List, [], ◌∷◌, Option, Some, None, if◌then◌else◌}
use Rattle.poets_value.specs.declared.value.Name.{Name}
use Rattle.poets_value.specs.declared.value.Ty.{Ty}
use Rattle.poets_value.specs.declared.value.Ty.TheVariants as T
use Rattle.poets_value.specs.declared.value.Value.{Value}
use Rattle.poets_value.specs.declared.value.Value.TheVariants as V
use Rattle.poets_expr.specs.declared.expr.Op.{Op}
use Rattle.poets_expr.specs.declared.expr.Op.TheVariants as O
use Rattle.poets_expr.specs.Expression.{UnaryOp, Minus, Not, AmountOf, KindOf}
use Rattle.poets_expr.specs.Expression.{Expression, Literal, Undefined, Named, Unary, Make, Binary}
use Rattle.poets_expr.specs.Expression.{If}
use Rattle.poets_expr.specs.Env.{Declared, same_name}
use Rattle.poets_expr.specs.Same.{ty_place}
use Rattle.poets_syntax.specs.Plain.{TypeCause, Unknown, WrongType}

-- what passes a check, or the first fault
pub data Verdict (A : Type 0) : Type 0 where
  Passes : A → Verdict A
  Fails : TypeCause → Verdict A

-- one check after the other
infixl 10 ◌>>=◌
abbrev pub ◌>>=◌ : {A B : Type 0} → Verdict A → (A → Verdict B) → Verdict B
(Passes a) >>= next = next a
(Fails fault) >>= next = Fails fault

-- names in scope with their types, the newest first
abbrev pub Scope : Type 0
Scope = List (Name × Ty)

-- the innermost binder's type, else that of a declared agent or kind
abbrev pub type_in : Declared → Scope → Name → Option Ty
type_in declared [] x = declared x
type_in declared (p ∷ scope) x = if same_name p.0 x then Some p.1 else type_in declared scope x

abbrev pub same_type : Ty → Ty → Bool
same_type s t = nat_eq (ty_place s) (ty_place t)

-- what is found has the wanted type
abbrev pub must_be : (wanted found : Ty) → Verdict (Unit {0})
must_be wanted found = if same_type wanted found then Passes tt else Fails (WrongType wanted found)

-- what is found is a number or a day
abbrev pub must_be_number_or_day : Ty → Verdict (Unit {0})
must_be_number_or_day T.Int = Passes tt
must_be_number_or_day T.Day = Passes tt
must_be_number_or_day found = Fails (WrongType T.Int found)

-- the type of a node with one part, which must have the wanted type
abbrev pub of_one : (wanted x node : Ty) → Verdict Ty
of_one wanted x node = do
  _ ← must_be wanted x
  Passes node

-- the type of a node with two parts, which must both have the wanted type
abbrev pub of_two : (wanted x y node : Ty) → Verdict Ty
of_two wanted x y node = do
  _ ← must_be wanted x
  _ ← must_be wanted y
  Passes node

-- the type of an operator of one operand, applied to a part of this type
abbrev pub unary_type : UnaryOp → Ty → Verdict Ty
unary_type Minus x = of_one T.Int x T.Int
unary_type Not x = of_one T.Bool x T.Bool
unary_type AmountOf x = of_one T.Resource x T.Int
unary_type KindOf x = of_one T.Resource x T.Kind

-- the type of a sum: of a number or a day, and a number that is added to it
abbrev pub sum_type : Ty → Ty → Verdict Ty
sum_type x y = do
  _ ← must_be_number_or_day x
  _ ← must_be T.Int y
  Passes x

-- the type of a difference: of two days a number, and else as of a sum
abbrev pub difference_type : Ty → Ty → Verdict Ty
difference_type T.Day T.Day = Passes T.Int
difference_type x y = sum_type x y

-- the type of a test whether two parts of one type are equal
abbrev pub equal_type : Ty → Ty → Verdict Ty
equal_type x y = do
  _ ← must_be x y
  Passes T.Bool

-- the type of a test by order: of two numbers or two days
abbrev pub order_type : Ty → Ty → Verdict Ty
order_type x y = do
  _ ← must_be_number_or_day x
  equal_type x y

-- the type of an operator of two operands, applied to parts of these types
abbrev pub binary_type : Op → Ty → Ty → Verdict Ty
binary_type O.Add x y = sum_type x y
binary_type O.Sub x y = difference_type x y
binary_type O.Mul x y = of_two T.Int x y T.Int
binary_type O.Div x y = of_two T.Int x y T.Int
binary_type O.Rem x y = of_two T.Int x y T.Int
binary_type O.Eq x y = equal_type x y
binary_type O.Ne x y = equal_type x y
binary_type O.Lt x y = order_type x y
binary_type O.Le x y = order_type x y
binary_type O.Gt x y = order_type x y
binary_type O.Ge x y = order_type x y
binary_type O.And x y = of_two T.Bool x y T.Bool
binary_type O.Or x y = of_two T.Bool x y T.Bool

-- the type of `res(x, y)`
abbrev pub make_type : Ty → Ty → Verdict Ty
make_type x y = do
  _ ← must_be T.Int x
  _ ← must_be T.Kind y
  Passes T.Resource

-- the type of an `if`
abbrev pub if_type : Ty → Ty → Ty → Verdict Ty
if_type x y z = do
  _ ← must_be T.Bool x
  _ ← must_be y z
  Passes y

abbrev pub name_type : Name → Option Ty → Verdict Ty
name_type x None = Fails (Unknown x)
name_type x (Some t) = Passes t

-- the kind of a resource literal is declared as one
abbrev pub resource_type : Name → Option Ty → Verdict Ty
resource_type kind None = Fails (Unknown kind)
resource_type kind (Some t) = of_one T.Kind t T.Resource

-- the type of a literal; an agent or a kind is written as a name, and never as a literal
abbrev pub literal_type : Declared → Value → Verdict Ty
literal_type declared (V.Int n) = Passes T.Int
literal_type declared (V.Bool b) = Passes T.Bool
literal_type declared (V.Day d) = Passes T.Day
literal_type declared (V.Resource r) = resource_type r.kind (declared r.kind)
literal_type declared (V.Agent x) = Fails (Unknown x)
literal_type declared (V.Kind x) = Fails (Unknown x)

-- the type of an expression, or its first fault: its parts from left to right, then the node
abbrev pub type_of : Declared → Scope → Expression → Verdict Ty
type_of declared scope (Literal v) = literal_type declared v
type_of declared scope (Undefined t) = Passes t
type_of declared scope (Named x) = name_type x (type_in declared scope x)
type_of declared scope (Unary o a) = do
  x ← type_of declared scope a
  unary_type o x
type_of declared scope (Make a b) = do
  x ← type_of declared scope a
  y ← type_of declared scope b
  make_type x y
type_of declared scope (Binary o a b) = do
  x ← type_of declared scope a
  y ← type_of declared scope b
  binary_type o x y
type_of declared scope (If a b c) = do
  x ← type_of declared scope a
  y ← type_of declared scope b
  z ← type_of declared scope c
  if_type x y z
