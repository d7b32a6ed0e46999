-- What is whole: each number in it is a whole number of the language, and each day one of its days.
use Rattle.std.specs.Prelude.{All, Option, IfSome}
use Rattle.poets_value.specs.declared.value.Value.{Value}
use Rattle.poets_value.specs.Whole.{IsWholeValue}
use Rattle.poets_expr.specs.Expression.{Expression, EachLiteral}
use Rattle.poets_expr.specs.Env.{Env}
use Rattle.poets_expr.specs.Subst.{Givens}

-- each literal in the expression is whole
abbrev pub IsWholeExpression : Expression → Type 0
IsWholeExpression e = EachLiteral IsWholeValue e

-- "undefined", or a value that is whole
abbrev pub IsWholeOption : Option Value → Type 0
IsWholeOption o = IfSome o IsWholeValue

-- each value in the environment is undefined or whole
abbrev pub IsWholeEnv : Env → Type 0
IsWholeEnv env = All (λ p. IsWholeOption p.1) env

-- each value that a name is replaced by is undefined or whole
abbrev pub AreWholeGivens : Givens → Type 0
AreWholeGivens given = All (λ p. IsWholeOption p.1.value) given
