-- Expressions as the definitions see them: the trees of `Expr` without their boxes.
use Rattle.poets_value.specs.declared.value.Name.{Name}
use Rattle.poets_value.specs.declared.value.Ty.{Ty}
use Rattle.poets_value.specs.declared.value.Value.{Value}
use Rattle.poets_value.specs.declared.value.Value.TheVariants as V
use Rattle.poets_expr.specs.declared.expr.Op.{Op}
use Rattle.poets_expr.specs.declared.expr.Expr.{Expr}
use Rattle.poets_expr.specs.declared.expr.Expr.TheVariants as E

-- an operator of one operand
pub data UnaryOp : Type 0 where
  Minus : UnaryOp
  Not : UnaryOp
  AmountOf : UnaryOp
  KindOf : UnaryOp

-- the forms of expressions
pub data Expression : Type 0 where
  Literal : Value → Expression
  Undefined : Ty → Expression
  Named : Name → Expression
  Unary : UnaryOp → Expression → Expression
  Make : Expression → Expression → Expression
  Binary : Op → Expression → Expression → Expression
  If : Expression → Expression → Expression → Expression

-- P holds of each literal
abbrev pub EachLiteral : (Value → Type 0) → Expression → Type 0
EachLiteral P (Literal v) = P v
EachLiteral P (Undefined t) = Unit {0}
EachLiteral P (Named x) = Unit {0}
EachLiteral P (Unary o a) = EachLiteral P a
EachLiteral P (Make a b) = EachLiteral P a × EachLiteral P b
EachLiteral P (Binary o a b) = EachLiteral P a × EachLiteral P b
EachLiteral P (If a b c) = EachLiteral P a × EachLiteral P b × EachLiteral P c

-- the tree of an `Expr`
abbrev pub expression_of : Expr → Expression
expression_of (E.Int n) = Literal (V.Int n)
expression_of (E.Bool b) = Literal (V.Bool b)
expression_of (E.Day d) = Literal (V.Day d)
expression_of (E.Res r) = Literal (V.Resource r)
expression_of (E.Undefined t) = Undefined t
expression_of (E.Name n) = Named n
expression_of (E.Neg' p a) = Unary Minus (expression_of a)
expression_of (E.Not' p a) = Unary Not (expression_of a)
expression_of (E.Amount' p a) = Unary AmountOf (expression_of a)
expression_of (E.KindOf' p a) = Unary KindOf (expression_of a)
expression_of (E.Make' p a q b) = Make (expression_of a) (expression_of b)
expression_of (E.Op' o p a q b) = Binary o (expression_of a) (expression_of b)
expression_of (E.If' p a q b r c) = If (expression_of a) (expression_of b) (expression_of c)
