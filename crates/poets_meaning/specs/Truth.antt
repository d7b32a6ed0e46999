-- Whether a value is `true`.
use Rattle.std.specs.Prelude.{Bool, false, Option, Some}
use Rattle.poets_value.specs.declared.value.Value.{Value}
use Rattle.poets_value.specs.declared.value.Value.TheVariants as V

-- whether the value is `true`
abbrev pub is_true : Option Value → Bool
is_true (Some (V.Bool b)) = b
is_true _ = false
