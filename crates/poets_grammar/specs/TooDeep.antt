-- Statements with too many brackets open at one place, or too many operators.
use Rattle.std.specs.Prelude.{ℕ, ◌-◌, ◌<◌, suc, Bool, true, false, List, count_by, fold, take}
use Rattle.poets_lex.specs.declared.token.Word.{Word}
use Rattle.poets_lex.specs.declared.token.Word.TheVariants as W
use Rattle.poets_lex.specs.declared.token.Sign.{Sign}
use Rattle.poets_lex.specs.declared.token.Sign.TheVariants as S
use Rattle.poets_lex.specs.declared.token.Tok.{Tok}
use Rattle.poets_lex.specs.declared.token.Tok.TheVariants as K
use Rattle.poets_grammar.specs.declared.limits.TheConstants.{MOST_OPEN, MOST_OPEN_STORED}
use Rattle.poets_grammar.specs.declared.limits.TheConstants.{MOST_OPERATORS}

-- ---- brackets

-- the `(` that are open after one more token; a `)` with nothing open counts for nothing
abbrev pub open_behind : ℕ → Tok → ℕ
open_behind n (K.Sign S.LeftParen) = suc n
open_behind n (K.Sign S.RightParen) = n - 1
open_behind n _ = n

-- the `(` that are open at the end
abbrev pub open_at_end : List Tok → ℕ
open_at_end tokens = fold open_behind 0 tokens

-- ---- operators

abbrev pub is_operator_word : Word → Bool
is_operator_word W.And = true
is_operator_word W.Or = true
is_operator_word W.Not = true
is_operator_word W.If = true
is_operator_word _ = false

abbrev pub is_operator_sign : Sign → Bool
is_operator_sign S.Plus = true
is_operator_sign S.Minus = true
is_operator_sign S.Star = true
is_operator_sign S.Slash = true
is_operator_sign S.Percent = true
is_operator_sign S.Equal = true
is_operator_sign S.NotEqual = true
is_operator_sign S.Less = true
is_operator_sign S.LessEqual = true
is_operator_sign S.Greater = true
is_operator_sign S.GreaterEqual = true
is_operator_sign S.Dot = true
is_operator_sign S.DoubleBar = true
is_operator_sign S.Semicolon = true
is_operator_sign _ = false

abbrev pub is_operator : Tok → Bool
is_operator (K.Word word) = is_operator_word word
is_operator (K.Sign sign) = is_operator_sign sign
is_operator _ = false

-- the number of operator tokens
abbrev pub operators : List Tok → ℕ
operators tokens = count_by is_operator tokens

-- ---- the limits

abbrev pub most_open : ℕ
most_open = MOST_OPEN

abbrev pub most_open_stored : ℕ
most_open_stored = MOST_OPEN_STORED

abbrev pub most_operators : ℕ
most_operators = MOST_OPERATORS

-- after some number of tokens more than `most` brackets are open, or there are more than 1,000
-- operators
pub data IsDeeper (most : ℕ) (tokens : List Tok) : Type 0 where
  Nested : (count : ℕ) → most < open_at_end (take count tokens) → IsDeeper most tokens
  Long : most_operators < operators tokens → IsDeeper most tokens

-- too deep for a statement of a session, which may have 200 brackets open at one place
abbrev pub IsTooDeep : List Tok → Type 0
IsTooDeep tokens = IsDeeper most_open tokens

-- too deep for a statement that was printed and stored, which may have 201 open: `- -5` is printed
-- as `-(-5)`
abbrev pub IsTooDeepStored : List Tok → Type 0
IsTooDeepStored tokens = IsDeeper most_open_stored tokens
