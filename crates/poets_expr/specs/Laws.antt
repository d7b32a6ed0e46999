-- The laws of expressions, as statements.
use Rattle.std.specs.Prelude.{◌≡◌, IsTrue, [], ◌++◌, Option, Some, is_some}
use Rattle.std.specs.List.{list_all}
use Rattle.poets_value.specs.declared.value.Name.{Name}
use Rattle.poets_value.specs.declared.value.Ty.{Ty}
use Rattle.poets_value.specs.declared.value.Ty.TheVariants as T
use Rattle.poets_value.specs.declared.value.Value.{Value}
use Rattle.poets_value.specs.declared.value.Value.TheVariants as V
use Rattle.poets_expr.specs.declared.expr.Expr.{Expr}
use Rattle.poets_expr.specs.Expression.{Expression, expression_of}
use Rattle.poets_expr.specs.Env.{Declared, Env, PairsAreUndeclared}
use Rattle.poets_expr.specs.Val.{val}
use Rattle.poets_expr.specs.Subst.{Givens, subst, literal_of, env_of, IsDeclared, AreDeclared}
use Rattle.poets_expr.specs.Free.{free_names_of}
use Rattle.poets_expr.specs.Fold.{is_closed, fold_closed, HasDeclaredLiterals, KeepsDeclared}
use Rattle.poets_expr.specs.Whole.{IsWholeExpression, IsWholeOption, IsWholeEnv, AreWholeGivens}

-- where no pair has a declared name, declared names stand for themselves
abbrev pub UndeclaredPairsKeepDeclared : Type 0
UndeclaredPairsKeepDeclared =
    (declared : Declared) (env : Env) → PairsAreUndeclared declared env → KeepsDeclared declared env

-- an expression with names replaced by literals has the value that it has with these names and
-- values as the newest pairs of the environment
abbrev pub ReplacedKeepsValue : Type 0
ReplacedKeepsValue = (declared : Declared) (given : Givens) (env : Env) (e : Expression) →
    AreDeclared declared given → PairsAreUndeclared declared env →
    val declared env (subst given e) ≡ val declared (env_of given ++ env) e

-- an expression with names replaced by literals has in the empty environment the value that it has
-- with these names and values as the only pairs
abbrev pub ReplacedKeepsValueAlone : Type 0
ReplacedKeepsValueAlone = (declared : Declared) (given : Givens) (e : Expression) → AreDeclared declared given →
    val declared [] (subst given e) ≡ val declared (env_of given) e

-- each value has a literal
abbrev pub LiteralHasValue : Type 0
LiteralHasValue =
    (declared : Declared) (env : Env) (o : Option Value) (t : Ty) → PairsAreUndeclared declared env →
    IsDeclared declared o →
    val declared env (literal_of o t) ≡ o

-- folding an expression keeps its value, unless it is closed and its value is an undeclared agent
-- or kind
abbrev pub FoldedKeepsValue : Type 0
FoldedKeepsValue = (declared : Declared) (env : Env) (e : Expression) (t : Ty) → PairsAreUndeclared declared env →
    (IsTrue (is_closed declared e) → IsDeclared declared (val declared [] e)) →
    val declared env (fold_closed declared e t) ≡ val declared env e

-- folding an `Expr` keeps its value, unless it is closed and its value is an undeclared kind
abbrev pub FoldedKeepsValueOfExpr : Type 0
FoldedKeepsValueOfExpr = (declared : Declared) (env : Env) (e : Expr) (t : Ty) → PairsAreUndeclared declared env →
    (IsTrue (is_closed declared (expression_of e)) → (k : Name) → val declared [] (expression_of e) ≡ Some (V.Kind k) →
    declared k ≡ Some T.Kind) →
    val declared env (fold_closed declared (expression_of e) t) ≡ val declared env (expression_of e)

-- where the agents and kinds in the literals are declared as such, so is a value that is an agent
-- or a kind
abbrev pub DeclaredLiteralsGiveDeclared : Type 0
DeclaredLiteralsGiveDeclared =
    (declared : Declared) (e : Expression) → HasDeclaredLiterals declared e → IsDeclared declared (val declared [] e)

-- an expression is closed exactly where each of its free names is declared
abbrev pub ClosedNamesAreDeclared : Type 0
ClosedNamesAreDeclared =
    (declared : Declared) (e : Expression) →
    is_closed declared e ≡ list_all (λ x. is_some (declared x)) (free_names_of e)

-- the value of a whole expression is whole
abbrev pub ValueIsWhole : Type 0
ValueIsWhole =
    (declared : Declared) (env : Env) (e : Expression) → IsWholeEnv env → IsWholeExpression e →
    IsWholeOption (val declared env e)

-- the literal of a whole value is whole
abbrev pub LiteralIsWhole : Type 0
LiteralIsWhole = (o : Option Value) (t : Ty) → IsWholeOption o → IsWholeExpression (literal_of o t)

-- where names are replaced by whole values, a whole expression stays whole
abbrev pub ReplacedIsWhole : Type 0
ReplacedIsWhole =
    (given : Givens) (e : Expression) → AreWholeGivens given → IsWholeExpression e → IsWholeExpression (subst given e)

-- a whole expression is whole once it is folded
abbrev pub FoldedIsWhole : Type 0
FoldedIsWhole =
    (declared : Declared) (e : Expression) (t : Ty) → IsWholeExpression e → IsWholeExpression (fold_closed declared e t)
