-- Arguments, one by one.
use Rattle.std.proofs.Common.{◌≡◌, ℕ, suc, zero, List, [], ◌∷◌, length, drop, map, min, refl, arith}
use Rattle.poets_expr.specs.Env.{Declared}
use Rattle.poets_expr.specs.Expression.{expression_of}
use Rattle.poets_expr.specs.declared.expr.Expr.{Expr}
use Rattle.poets_syntax.specs.declared.term.Param.{Param}
use Rattle.poets_syntax.specs.TypeOf.{Passes, Scope}
use Rattle.poets_syntax.specs.Typed.{check_args}

-- none is left
pub check_args_end : (declared : Declared) (scope : Scope) (n : ℕ) (params : List Param) (args : List Expr) → n ≡ min (length params) (length args) →
    check_args declared scope (drop n params) (map expression_of (drop n args)) ≡ Passes tt
check_args_end declared scope zero [] args e = refl
check_args_end declared scope (suc n) [] args e = refl
check_args_end declared scope zero (p ∷ params) [] e = refl
check_args_end declared scope (suc n) (p ∷ params) [] e = absurd (omega (arith, e))
check_args_end declared scope zero (p ∷ params) (a ∷ args) e = absurd (omega (arith, e))
check_args_end declared scope (suc n) (p ∷ params) (a ∷ args) e = check_args_end declared scope n params args (omega (arith, e))
