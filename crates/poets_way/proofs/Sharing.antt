-- The values and the events that parts of contracts have.
use Rattle.std.proofs.Common.{◌≡◌, ℕ, zero, suc, ◌+◌, ◌≤◌, arith, Bool, true, false, List, [], ◌∷◌, length, map, drop, refl, Option}
use Rattle.std.specs.Prelude.{min}
use Rattle.poets_value.specs.declared.event.Event.{Event}
use Rattle.poets_value.specs.declared.value.Value.{Value}
use Rattle.poets_expr.specs.declared.expr.Expr.{Expr}
use Rattle.poets_expr.specs.Expression.{Expression, expression_of}
use Rattle.poets_syntax.specs.Book.{parameter_env}
use Rattle.poets_syntax.specs.declared.term.Param.{Param}
use Rattle.poets_way.specs.Ways.{first_of, second_of}

-- where no parameter or no argument is left, there is no pair
pub parameter_env_end : (value : Expression → Option Value) (n : ℕ) (params : List Param) (args : List Expr) → n ≡ min (length params) (length args) →
    parameter_env (drop n params) (map value (map expression_of (drop n args))) ≡ []
parameter_env_end value zero [] args e = refl
parameter_env_end value (suc n) [] args e = refl
parameter_env_end value zero (p ∷ params) [] e = refl
parameter_env_end value (suc n) (p ∷ params) [] e = absurd (omega (arith, e))
parameter_env_end value zero (p ∷ params) (a ∷ args) e = absurd (omega (arith, e))
parameter_env_end value (suc n) (p ∷ params) (a ∷ args) e = parameter_env_end value n params args (omega (arith, e))

-- each of the events with a side is one side's
pub both_sides : (sides : List Bool) (s : List Event) → length sides ≤ length s → length (first_of sides s) + length (second_of sides s) ≡ length sides
both_sides [] s h = refl
both_sides (b ∷ sides) [] h = absurd (omega (arith, h))
both_sides (true ∷ sides) (x ∷ s) h = let k = both_sides sides s (omega (arith, h)) in omega (arith, k)
both_sides (false ∷ sides) (x ∷ s) h = let k = both_sides sides s (omega (arith, h)) in omega (arith, k)
