-- Tokens that are a name, as the code finds and replaces them.
use Rattle.std.specs.Prelude.{◌≡◌, ℕ, List, Some, slice_get, if◌then◌else◌}
use Rattle.poets_value.specs.declared.value.Name.{Name}
use Rattle.poets_lex.specs.declared.token.Tok.TheVariants as K
use Rattle.poets_lex.specs.declared.token.Token.{Token}
use Rattle.poets_mark.specs.Naming.{is_name}

-- the token at the place is the name
abbrev pub IsNameAt : List Token → Name → ℕ → Type 0
IsNameAt tokens x place = (token : Token) × (slice_get tokens place ≡ Some token) × (token.what ≡ K.Name x)

-- the token, or in place of the name the other one
abbrev pub replaced : (x other : Name) → Token → Token
replaced x other t = if is_name x t.what then record t { what = K.Name other } else t
