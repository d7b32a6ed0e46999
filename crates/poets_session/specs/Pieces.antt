-- Texts cut into the tokens of their statements.
use Rattle.std.specs.Prelude.{Bool, true, false, List, [], ◌∷◌, if◌then◌else◌}
use Rattle.poets_lex.specs.declared.token.Tok.{Tok}
use Rattle.poets_lex.specs.declared.token.Tok.TheVariants as K
use Rattle.poets_lex.specs.declared.token.Sign.TheVariants as S
use Rattle.poets_lex.specs.declared.token.Token.{Token}

-- the tokens of a statement, and whether a `;;` ends it
pub record Piece : Type 0 where
  pub tokens : List Tok
  pub ended : Bool

-- a token in front of what follows it: it belongs to the first statement there
abbrev pub with_token : Tok → List Piece → List Piece
with_token t [] = record { tokens = t ∷ []; ended = false } ∷ []
with_token t (p ∷ pieces) = record { tokens = t ∷ p.tokens; ended = p.ended } ∷ pieces

abbrev pub is_end : Tok → Bool
is_end (K.Sign S.DoubleSemicolon) = true
is_end t = false

-- a `;;` ends the statement in front of it; any other token belongs to the statement that goes on
-- after it. Tokens after the last `;;` are a statement that is not ended
abbrev pub pieces_of : List Tok → List Piece
pieces_of [] = []
pieces_of (t ∷ ts) =
    if is_end t then record { tokens = []; ended = true } ∷ pieces_of ts else with_token t (pieces_of ts)

-- the tokens ahead of the first `;;`
abbrev pub ahead_of_end : List Token → List Token
ahead_of_end [] = []
ahead_of_end (t ∷ ts) = if is_end t.what then [] else t ∷ ahead_of_end ts

-- the tokens after the first `;;`
abbrev pub after_end : List Token → List Token
after_end [] = []
after_end (t ∷ ts) = if is_end t.what then ts else after_end ts
