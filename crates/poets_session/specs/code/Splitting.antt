-- Statements as the code reads them.
use Rattle.std.specs.Prelude.{◌≡◌, ◌≢◌, ℕ, ◌+◌, ◌<◌, Bool, true, false, List, [], ◌∷◌, length, take}
use Rattle.std.specs.Prelude.{drop}
use Rattle.std.specs.List.{AllZip}
use Rattle.poets_value.specs.Listed.{Listed}
use Rattle.poets_lex.specs.declared.token.Tok.{Tok}
use Rattle.poets_lex.specs.declared.token.Token.{Token}
use Rattle.poets_grammar.specs.Tokens.{toks}
use Rattle.poets_parse.specs.declared.fault.SyntaxFault.{SyntaxFault}
use Rattle.poets_command.specs.Said.{Statement}
use Rattle.poets_command.specs.Statements.{statement_of, statements_of}
use Rattle.poets_command.specs.declared.statement.Statement.{Statement as CodeStatement}
use Rattle.poets_session.specs.Pieces.{Piece, pieces_of, ahead_of_end, after_end}
use Rattle.poets_session.specs.Sessions.{IsStatementPiece}
use Rattle.poets_session.specs.Refusals.{IsUnread}
use Rattle.poets_session.specs.Causes.{IsCauseOf}
use Rattle.poets_session.specs.declared.fault.SessionCause.TheVariants as C

-- a statement of these tokens
abbrev pub piece : List Tok → Bool → Piece
piece tokens ended = record { tokens = tokens; ended = ended }

-- the statements say this, one by one
abbrev pub AreSaid : List Piece → List Statement → Type 0
AreSaid pieces statements = AllZip IsStatementPiece pieces statements

-- the piece is a statement that says this
abbrev pub Says : Piece → CodeStatement → Type 0
Says p s = IsStatementPiece p (statement_of s)

-- the pieces are statements that say this, one by one
abbrev pub Say : List Piece → Listed CodeStatement → Type 0
Say pieces found = AreSaid pieces (statements_of found.items)

-- the tokens are cut into those of a statement, ended or not, and the rest
abbrev pub AreCutInto : (tokens first : List Token) → Bool → (rest : List Token) → Type 0
AreCutInto tokens first ended rest = pieces_of (toks tokens) ≡ piece (toks first) ended ∷ pieces_of (toks rest)

-- so many tokens, and not all, stand ahead of the first `;;`
abbrev pub StandAheadOfEnd : List Token → ℕ → Type 0
StandAheadOfEnd tokens n =
    (n < length tokens) × (ahead_of_end tokens ≡ take n tokens) × (after_end tokens ≡ drop (n + 1) tokens)

-- the first statement has so many tokens
abbrev pub IsCutAt : List Token → ℕ → Type 0
IsCutAt tokens n = AreCutInto tokens (take n tokens) true (drop (n + 1) tokens)

-- all tokens stand ahead of the first `;;`, and none after it
abbrev pub HaveNoEnd : List Token → Type 0
HaveNoEnd tokens = (ahead_of_end tokens ≡ tokens) × (after_end tokens ≡ [])

-- the tokens, if there are any, are those of one statement that is not ended
abbrev pub IsUncut : List Token → Type 0
IsUncut tokens = tokens ≢ [] → pieces_of (toks tokens) ≡ piece (toks tokens) false ∷ []

-- the fault tells why a statement of the tokens without a `;;` is none, whatever its number
abbrev pub TellsUnended : List Tok → SyntaxFault → Type 0
TellsUnended tokens fault = (number : ℕ) → IsCauseOf (IsUnread (piece tokens false) number) (C.Syntax number fault)
