-- Arguments, one by one.
use Rattle.std.proofs.Common.{◌≡◌, ℕ, suc, zero, List, [], ◌∷◌, length, drop, map, min, refl, arith}
use Rattle.poets_expr.specs.Env.{Declared}
use Rattle.poets_expr.specs.Expression.{expression_of}
use Rattle.poets_expr.specs.declared.expr.Expr.{Expr}
use Rattle.poets_syntax.specs.declared.term.Param.{Param}
use Rattle.poets_syntax.specs.Givens.{argument_givens}

-- none is left
pub argument_givens_end : (declared : Declared) (n : ℕ) (params : List Param) (args : List Expr) → n ≡ min (length params) (length args) →
    argument_givens declared (drop n params) (map expression_of (drop n args)) ≡ []
argument_givens_end declared zero [] args e = refl
argument_givens_end declared (suc n) [] args e = refl
argument_givens_end declared zero (p ∷ params) [] e = refl
argument_givens_end declared (suc n) (p ∷ params) [] e = absurd (omega (arith, e))
argument_givens_end declared zero (p ∷ params) (a ∷ args) e = absurd (omega (arith, e))
argument_givens_end declared (suc n) (p ∷ params) (a ∷ args) e = argument_givens_end declared n params args (omega (arith, e))
