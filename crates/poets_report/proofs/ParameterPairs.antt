-- Arguments, one by one.
use Rattle.std.proofs.Common.{◌≡◌, ℕ, suc, zero, List, [], ◌∷◌, Option, length, drop, min, refl, arith}
use Rattle.poets_value.specs.declared.value.Value.{Value}
use Rattle.poets_syntax.specs.declared.term.Param.{Param}
use Rattle.poets_syntax.specs.Book.{parameter_env}

-- none is left
pub parameter_env_end : (n : ℕ) (params : List Param) (args : List (Option Value)) → n ≡ min (length params) (length args) →
    parameter_env (drop n params) (drop n args) ≡ []
parameter_env_end zero [] args e = refl
parameter_env_end (suc n) [] args e = refl
parameter_env_end zero (p ∷ params) [] e = refl
parameter_env_end (suc n) (p ∷ params) [] e = absurd (omega (arith, e))
parameter_env_end zero (p ∷ params) (a ∷ args) e = absurd (omega (arith, e))
parameter_env_end (suc n) (p ∷ params) (a ∷ args) e = parameter_env_end n params args (omega (arith, e))
