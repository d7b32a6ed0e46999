-- The laws of values and their texts, as statements.
use Rattle.std.specs.Prelude.{◌≡◌, List, ℕ}
use Rattle.poets_value.specs.declared.value.Name.{Name}
use Rattle.poets_value.specs.declared.value.Value.{Value}
use Rattle.poets_expr.specs.Env.{Declared}
use Rattle.poets_lex.specs.Table.{Table, IsTable}
use Rattle.poets_print.specs.Laws.{IsListed}
use Rattle.poets_literals.specs.Declared.{IsPlaced, HasValueText}

-- each name of a table of names is the first place of its text
abbrev pub ListedArePlaced : Type 0
ListedArePlaced = (names : Table) (x : Name) → IsTable names → IsListed names x → IsPlaced names x

-- two values as declared that have one text are the same value
abbrev pub OneValue : Type 0
OneValue =
    (names : Table) (declared : Declared) (text : List ℕ) (v w : Value) → IsTable names
    → HasValueText names declared text v → HasValueText names declared text w → v ≡ w
