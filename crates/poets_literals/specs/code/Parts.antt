-- The texts of names and of resources alone, and what texts of numbers and of resources look like.
use Rattle.std.specs.Prelude.{◌≡◌, ◌≢◌, ◌⊎◌, ◌<◌, ◌++◌, [], ◌∷◌, List, ℕ, codes, length}
use Rattle.std.specs.Prelude.{slice_index}
use Rattle.std.specs.Int.{IsInRange}
use Rattle.poets_value.specs.declared.value.Name.{Name}
use Rattle.poets_value.specs.declared.value.Ty.{Ty}
use Rattle.poets_value.specs.declared.value.Resource.{Resource}
use Rattle.poets_value.specs.declared.value.Value.TheVariants as V
use Rattle.poets_expr.specs.Env.{Declared}
use Rattle.poets_lex.specs.Table.{Table}
use Rattle.poets_print.specs.Texts.{name_text}
use Rattle.poets_literals.specs.Declared.{IsDeclaredAs, HasValueText}

-- the name is declared with the type, and this is its text
abbrev pub HasNameText : Table → Declared → Ty → List ℕ → Name → Type 0
HasNameText names declared ty text x = IsDeclaredAs names declared ty x × (name_text names x ≡ text)

-- the resource is of a declared kind, and this is its text
abbrev pub HasResourceText : Table → Declared → List ℕ → Resource → Type 0
HasResourceText names declared text r = HasValueText names declared text (V.Resource r)

-- the text is `0`, or begins with another digit, behind `-` or not
abbrev pub BeginsPlainly : List ℕ → Type 0
BeginsPlainly text =
    (text ≡ 48 ∷ []) ⊎ IsInRange 49 57 (slice_index text 0)
    ⊎ (slice_index text 0 ≡ 45) × IsInRange 49 57 (slice_index text 1)

-- an amount and a kind with a space between them, in brackets
abbrev pub in_brackets : List ℕ → List ℕ → List ℕ
in_brackets amount kind = codes "[" ++ amount ++ codes " " ++ kind ++ codes "]"

abbrev pub HasNoSpace : List ℕ → Type 0
HasNoSpace text = (i : ℕ) → i < length text → slice_index text i ≢ 32
