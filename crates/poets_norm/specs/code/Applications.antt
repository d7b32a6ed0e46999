-- Applications in normal forms.
use Rattle.std.specs.Prelude.{◌≡◌, ◌+◌, ◌≤◌, ℕ, List, map, Option, None, Some, option_map, Result}
use Rattle.std.specs.Prelude.{IfOk}
use Rattle.std.specs.Borrow.{Bor}
use Rattle.std.specs.Option.{option_map_or}
use Rattle.poets_value.specs.declared.value.Name.{Name}
use Rattle.poets_value.specs.Listed.{Listed}
use Rattle.poets_expr.specs.declared.env.Decls.{Decls}
use Rattle.poets_expr.specs.declared.expr.Expr.{Expr}
use Rattle.poets_expr.specs.Env.{declared_of}
use Rattle.poets_expr.specs.Expression.{Expression, expression_of}
use Rattle.poets_expr.specs.Fold.{fold_closed}
use Rattle.poets_syntax.specs.declared.term.Param.{Param}
use Rattle.poets_syntax.specs.Contract.{Contract, App, Failure}
use Rattle.poets_calculus.specs.Normal.{folded}
use Rattle.poets_norm.specs.Questions.{operated, questions}

-- 1 for an argument that has to be asked: one that is neither a literal nor a name
abbrev pub to_ask_of : Expr → ℕ
to_ask_of arg = operated (expression_of arg)

-- the second expression is the argument, folded where it has a parameter
abbrev pub IsFolded : Decls → Option (Bor Param) → (arg made : Expr) → Type 0
IsFolded decls param arg made =
    expression_of made
    ≡ option_map_or (λ p. fold_closed (declared_of decls.names) (expression_of arg) p.now.ty) param (expression_of arg)

-- the second expressions are the arguments, each folded to a literal of its parameter's type
abbrev pub AreFolded : Decls → List Param → (args made : List Expr) → Type 0
AreFolded decls params args made =
    map expression_of made ≡ folded (declared_of decls.names) params (map expression_of args)

-- the template applied to the arguments, or `Failure` where there are none
abbrev pub applied : Name → Option (List Expression) → Contract
applied f (Some args) = App f args
applied f None = Failure

-- the template applied to the arguments that are kept, or `Failure` where there are none
abbrev pub applied_to : Name → Option (Listed Expr) → Contract
applied_to f kept = applied f (option_map (λ r. map expression_of r.items) kept)

-- where there is a result, the template applied to what is kept is the contract
abbrev pub Keeps : {E : Type 0} → Name → Result (Option (Listed Expr)) E → Contract → Type 0
Keeps f result c = IfOk result (λ kept. applied_to f kept ≡ c)

-- where there is a result, the count of what was asked and what the kept arguments have to be asked
-- stay within the limit
abbrev pub KeepsWithin : {E : Type 0} → Name → Result (Option (Listed Expr)) E → (asks limit : ℕ) → Type 0
KeepsWithin f result asks limit = IfOk result (λ kept. asks + questions (applied_to f kept) ≤ limit)
