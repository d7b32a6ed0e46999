-- Closed expressions, and the literals of their values.
use Rattle.std.specs.Prelude.{◌≡◌, Bool, true, false, not, ◌&&◌, is_some, [], Option, Some, None}
use Rattle.std.specs.Prelude.{if◌then◌else◌}
use Rattle.poets_value.specs.declared.value.Name.{Name}
use Rattle.poets_value.specs.declared.value.Ty.{Ty}
use Rattle.poets_value.specs.declared.value.Ty.TheVariants as T
use Rattle.poets_value.specs.declared.value.Value.{Value}
use Rattle.poets_value.specs.declared.value.Value.TheVariants as V
use Rattle.poets_expr.specs.Expression.{EachLiteral, Expression, Literal, Undefined, Named, Unary}
use Rattle.poets_expr.specs.Expression.{Make, Binary, If}
use Rattle.poets_expr.specs.Env.{Declared, Env, value_in}
use Rattle.poets_expr.specs.Val.{val}
use Rattle.poets_expr.specs.Subst.{literal_of}

-- whether every free name is declared
abbrev pub is_closed : Declared → Expression → Bool
is_closed declared (Literal v) = true
is_closed declared (Undefined t) = true
is_closed declared (Named x) = is_some (declared x)
is_closed declared (Unary o a) = is_closed declared a
is_closed declared (Make a b) = is_closed declared a && is_closed declared b
is_closed declared (Binary o a b) = is_closed declared a && is_closed declared b
is_closed declared (If a b c) = is_closed declared a && is_closed declared b && is_closed declared c

-- whether it is a literal; a declared name is the literal of its agent or kind
abbrev pub is_literal : Declared → Expression → Bool
is_literal declared (Literal v) = true
is_literal declared (Undefined t) = true
is_literal declared (Named x) = is_some (declared x)
is_literal declared _ = false

-- whether the expression is closed, and no literal yet
abbrev pub is_folded : Declared → Expression → Bool
is_folded declared e = is_closed declared e && not (is_literal declared e)

-- the literal of the expression's value where it is closed and no literal yet, and otherwise the
-- expression itself
abbrev pub fold_closed : Declared → Expression → Ty → Expression
fold_closed declared e t = if is_folded declared e then literal_of (val declared [] e) t else e

-- a value that is an agent or a kind is declared as such, and so is the kind of a resource
abbrev pub HasDeclaredNames : Declared → Option Value → Type 0
HasDeclaredNames declared (Some (V.Agent x)) = declared x ≡ Some T.Agent
HasDeclaredNames declared (Some (V.Kind x)) = declared x ≡ Some T.Kind
HasDeclaredNames declared (Some (V.Resource r)) = declared r.kind ≡ Some T.Kind
HasDeclaredNames declared _ = Unit {0}

-- each literal in the expression that is an agent or a kind is declared as such, and so is the kind
-- of a resource
abbrev pub HasDeclaredLiterals : Declared → Expression → Type 0
HasDeclaredLiterals declared e = EachLiteral (λ v. HasDeclaredNames declared (Some v)) e

-- each declared name stands for itself, as it does in an environment without pairs
abbrev pub KeepsDeclared : Declared → Env → Type 0
KeepsDeclared declared env = (x : Name) → ((declared x ≡ None) → ⊥) → value_in declared env x ≡ value_in declared [] x
