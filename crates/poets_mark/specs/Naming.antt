-- Tokens that are a name.
use Rattle.std.specs.Prelude.{◌≡◌, Bool, false, ◌==◌, List, All}
use Rattle.poets_value.specs.declared.value.Name.{Name}
use Rattle.poets_lex.specs.declared.token.Tok.{Tok}
use Rattle.poets_lex.specs.declared.token.Tok.TheVariants as K
use Rattle.poets_lex.specs.declared.token.Token.{Token}

-- the token is the name
abbrev pub is_name : Name → Tok → Bool
is_name x (K.Name y) = y.id == x.id
is_name x t = false

-- no token is the name
abbrev pub LacksName : List Token → Name → Type 0
LacksName tokens x = All (λ t. is_name x t.what ≡ false) tokens
