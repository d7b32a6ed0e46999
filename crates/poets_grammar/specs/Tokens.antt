-- What tokens are, and which of them stand between two operands.
use Rattle.std.specs.Prelude.{ℕ, List, map, All, Option, Some, None, option_map, pos, ◌≤ℤ◌}
use Rattle.poets_value.specs.declared.value.Ty.{Ty}
use Rattle.poets_value.specs.declared.value.Ty.TheVariants as T
use Rattle.poets_expr.specs.declared.expr.Op.{Op}
use Rattle.poets_expr.specs.declared.expr.Op.TheVariants as O
use Rattle.poets_lex.specs.declared.token.Word.{Word}
use Rattle.poets_lex.specs.declared.token.Word.TheVariants as W
use Rattle.poets_lex.specs.declared.token.Sign.{Sign}
use Rattle.poets_lex.specs.declared.token.Sign.TheVariants as S
use Rattle.poets_lex.specs.declared.token.Tok.{Tok}
use Rattle.poets_lex.specs.declared.token.Tok.TheVariants as K
use Rattle.poets_lex.specs.declared.token.Token.{Token}
use Rattle.poets_grammar.specs.Levels.{op_level}

-- what the tokens are, without their places
abbrev pub toks : List Token → List Tok
toks tokens = map (λ t. t.what) tokens

abbrev pub IsNatural : Tok → Type 0
IsNatural (K.Number n) = pos 0 ≤ℤ n
IsNatural _ = Unit {0}

-- no number among the tokens is below 0
abbrev pub AreNatural : List Token → Type 0
AreNatural tokens = All (λ t. IsNatural t.what) tokens

-- type = "Int" | "Bool" | "Agent" | "Kind" | "Resource" | "Day"
abbrev pub type_of : Word → Option Ty
type_of W.IntType = Some T.Int
type_of W.BoolType = Some T.Bool
type_of W.AgentType = Some T.Agent
type_of W.KindType = Some T.Kind
type_of W.ResourceType = Some T.Resource
type_of W.DayType = Some T.Day
type_of _ = None

-- the operator that a word is between two operands
abbrev pub word_operator : Word → Option Op
word_operator W.Or = Some O.Or
word_operator W.And = Some O.And
word_operator _ = None

-- the operator that a sign is between two operands
abbrev pub sign_operator : Sign → Option Op
sign_operator S.Equal = Some O.Eq
sign_operator S.NotEqual = Some O.Ne
sign_operator S.Less = Some O.Lt
sign_operator S.LessEqual = Some O.Le
sign_operator S.Greater = Some O.Gt
sign_operator S.GreaterEqual = Some O.Ge
sign_operator S.Plus = Some O.Add
sign_operator S.Minus = Some O.Sub
sign_operator S.Star = Some O.Mul
sign_operator S.Slash = Some O.Div
sign_operator S.Percent = Some O.Rem
sign_operator _ = None

abbrev pub token_operator : Tok → Option Op
token_operator (K.Word w) = word_operator w
token_operator (K.Sign s) = sign_operator s
token_operator _ = None

-- the level of a token between two operands, and which operator it is
abbrev pub infix_operator : Tok → Option (ℕ × Op)
infix_operator t = option_map (λ o. (op_level o, o)) (token_operator t)
