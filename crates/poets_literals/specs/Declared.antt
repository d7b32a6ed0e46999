-- When a value is as declared, and what its text is.
use Rattle.std.specs.Prelude.{◌≡◌, ◌^◌, List, ℕ, Some, ℤ, pos, neg_ℤ, ◌≤ℤ◌, ◌<ℤ◌}
use Rattle.poets_value.specs.declared.value.Name.{Name}
use Rattle.poets_value.specs.declared.value.Ty.{Ty}
use Rattle.poets_value.specs.declared.value.Ty.TheVariants as T
use Rattle.poets_value.specs.declared.value.Value.{Value}
use Rattle.poets_value.specs.declared.value.Value.TheVariants as V
use Rattle.poets_value.specs.Civil.{IsDayNumber, day_text}
use Rattle.poets_expr.specs.Env.{Declared}
use Rattle.poets_lex.specs.Table.{Table, place_of}
use Rattle.poets_print.specs.Texts.{name_text, value_text}

-- from -2^63 to 2^63 - 1, the numbers of 64 bits
abbrev pub IsNumber : ℤ → Type 0
IsNumber z = (neg_ℤ (pos (2 ^ 63)) ≤ℤ z) × (z <ℤ pos (2 ^ 63))

-- the name is the first place of its text, as is each name of a table in which no text occurs twice
abbrev pub IsPlaced : Table → Name → Type 0
IsPlaced names x = place_of (name_text names x) names ≡ Some x.id

-- the table has the name, and it is declared with this type
abbrev pub IsDeclaredAs : Table → Declared → Ty → Name → Type 0
IsDeclaredAs names declared ty x = IsPlaced names x × (declared x ≡ Some ty)

-- the value is as declared: a number or an amount has 64 bits, a day is one of the language, an
-- agent or a kind is declared as such, and so is the kind of a resource
abbrev pub IsAsDeclared : Table → Declared → Value → Type 0
IsAsDeclared names declared (V.Int n) = IsNumber n
IsAsDeclared names declared (V.Bool b) = Unit {0}
IsAsDeclared names declared (V.Agent x) = IsDeclaredAs names declared T.Agent x
IsAsDeclared names declared (V.Kind x) = IsDeclaredAs names declared T.Kind x
IsAsDeclared names declared (V.Resource r) = IsNumber r.amount × IsDeclaredAs names declared T.Kind r.kind
IsAsDeclared names declared (V.Day d) = IsDayNumber d

-- the value is as declared, and this is its text
abbrev pub HasValueText : Table → Declared → List ℕ → Value → Type 0
HasValueText names declared text value = IsAsDeclared names declared value × (value_text names value ≡ text)

-- the number is that of a day, and this is the day's text
abbrev pub HasDayText : List ℕ → ℤ → Type 0
HasDayText text day = IsDayNumber day × (day_text day ≡ text)
