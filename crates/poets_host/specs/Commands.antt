-- Commands that a host makes from values.
use Rattle.std.specs.Prelude.{ℕ, [], ◌∷◌, pos}
use Rattle.poets_value.specs.declared.value.Name.{Name}
use Rattle.poets_value.specs.declared.value.Value.TheVariants as V
use Rattle.poets_expr.specs.Expression.{Literal}
use Rattle.poets_syntax.specs.Contract.{App}
use Rattle.poets_command.specs.Plain.{Command, Register}

-- the registration of a contract: the template, for so many units
abbrev pub sale_of : (contract template : Name) → (units : ℕ) → Command
sale_of contract template units = Register contract (App template (Literal (V.Int (pos units)) ∷ []))
