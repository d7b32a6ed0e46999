-- Where a fault is in its text.
use Rattle.std.specs.Prelude.{◌≡◌, ℕ, zero, suc, ◌-◌, List, [], ◌∷◌, length, Option, None, Some}
use Rattle.std.specs.Prelude.{unwrap_or, drop, ◌≤◌}
use Rattle.std.specs.Prelude.{◌⊎◌, slice_get}
use Rattle.poets_value.specs.declared.value.Name.{Name}
use Rattle.poets_lex.specs.declared.token.Tok.TheVariants as K
use Rattle.poets_lex.specs.declared.token.Token.{Token}
use Rattle.poets_lex.specs.declared.fault.LexFault.{LexFault}
use Rattle.poets_lex.specs.declared.fault.LexFault.TheVariants as L
use Rattle.poets_lex.specs.Table.{Table}
use Rattle.poets_lex.specs.Lexes.{Lexes}
use Rattle.poets_grammar.specs.Tokens.{toks}
use Rattle.poets_parse.specs.Sentences.{AreBegun}
use Rattle.poets_parse.specs.declared.fault.SyntaxFault.TheVariants as F
use Rattle.poets_types.specs.declared.cause.TypeCause.{TypeCause}
use Rattle.poets_types.specs.declared.cause.TypeCause.TheVariants as T
use Rattle.poets_session.specs.Pieces.{ahead_of_end, after_end}
use Rattle.poets_session.specs.Sessions.{Text}
use Rattle.poets_session.specs.declared.fault.SessionCause.{SessionCause}
use Rattle.poets_session.specs.declared.fault.SessionCause.TheVariants as C
use Rattle.poets_mark.specs.Naming.{LacksName}

-- the tokens after so many statements
abbrev pub statement_tokens : ℕ → List Token → List Token
statement_tokens zero ts = ts
statement_tokens (suc n) ts = statement_tokens n (after_end ts)

-- the place of the first token
abbrev pub first_place : List Token → Option ℕ
first_place [] = None
first_place (t ∷ ts) = Some t.from

-- the statement with the number, counted from 1, begins here: at its first token (its `;;`, if it
-- has no other), or at the end of the text, if there is no such statement
pub record IsBeginOf (text : Text) (number place : ℕ) : Type 0 where
  pub tokens : List Token
  pub names : Table
  pub lexed : Lexes [] text 0 tokens names
  pub here : place ≡ unwrap_or (first_place (statement_tokens (number - 1) tokens)) (length text)

-- the place is within the statement with the number: at one of its tokens, or at what comes after
-- them, its `;;` or the end of the text
pub record IsWithin (text : Text) (number place : ℕ) : Type 0 where
  pub tokens : List Token
  pub names : Table
  pub lexed : Lexes [] text 0 tokens names
  -- so many of its tokens are before the place
  pub count : ℕ
  pub inside : count ≤ length (ahead_of_end (statement_tokens (number - 1) tokens))
  pub here : place ≡ unwrap_or (first_place (drop count (statement_tokens (number - 1) tokens))) (length text)

-- the place of the first token of the statement that cannot follow the tokens before it in any
-- sentence or, if there is none, of its `;;` or the end of the text; of its first token if it is too
-- deep
pub record IsStopOf (text : Text) (number place : ℕ) : Type 0 where
  pub tokens : List Token
  pub names : Table
  pub lexed : Lexes [] text 0 tokens names
  -- so many of its tokens begin a sentence
  pub count : ℕ
  pub begun : AreBegun (toks (ahead_of_end (statement_tokens (number - 1) tokens))) count
  pub here : place ≡ unwrap_or (first_place (drop count (statement_tokens (number - 1) tokens))) (length text)

-- a token of the statement with the number is here, and it is the name
pub record IsNameOf (text : Text) (number : ℕ) (x : Name) (place : ℕ) : Type 0 where
  pub tokens : List Token
  pub names : Table
  pub lexed : Lexes [] text 0 tokens names
  pub token : Token
  -- so many of the statement's tokens are before it
  pub count : ℕ
  pub inside : slice_get (ahead_of_end (statement_tokens (number - 1) tokens)) count ≡ Some token
  pub name : token.what ≡ K.Name x
  pub here : place ≡ token.from

-- no token of the statement with the number is the name, and the statement begins here
pub record IsBeginWithout (text : Text) (number : ℕ) (x : Name) (place : ℕ) : Type 0 where
  pub tokens : List Token
  pub names : Table
  pub lexed : Lexes [] text 0 tokens names
  pub none : LacksName (ahead_of_end (statement_tokens (number - 1) tokens)) x
  pub here : place ≡ unwrap_or (first_place (statement_tokens (number - 1) tokens)) (length text)

-- the name is here in the statement with the number, which begins here if it does not have the name
abbrev pub IsNamePlace : Text → (number : ℕ) → Name → ℕ → Type 0
IsNamePlace text number x place = IsNameOf text number x place ⊎ IsBeginWithout text number x place

-- the place of a fault of names is at the name, and that of a fault of types within the statement;
-- "out of memory" has no place
abbrev pub IsTypePlace : Text → (number : ℕ) → TypeCause → ℕ → Type 0
IsTypePlace text number (T.Twice x) place = IsNamePlace text number x place
IsTypePlace text number (T.Unknown x) place = IsNamePlace text number x place
IsTypePlace text number (T.WrongCount x wanted found) place = IsNamePlace text number x place
IsTypePlace text number (T.WrongType wanted found) place = IsWithin text number place
IsTypePlace text number T.Memory place = ⊥

-- the place where the bytes cannot be cut into tokens; "out of memory" has none
abbrev pub byte_of : LexFault → Option ℕ
byte_of (L.BadByte at) = Some at
byte_of (L.LongNumber at) = Some at
byte_of (L.LongName at) = Some at
byte_of L.Memory = None

-- the place of the fault is here: at the byte, or at the name, or where the statement begins; for
-- `NoSentence` where its tokens stop beginning a sentence, and within a statement that is not typed
abbrev pub IsPlaceOf : Text → SessionCause → ℕ → Type 0
IsPlaceOf text (C.Lex fault) place = byte_of fault ≡ Some place
IsPlaceOf text (C.Syntax number F.NoSentence) place = IsStopOf text number place
IsPlaceOf text (C.Syntax number fault) place = IsBeginOf text number place
IsPlaceOf text (C.Misplaced number) place = IsBeginOf text number place
IsPlaceOf text (C.TooMany number) place = IsBeginOf text number place
IsPlaceOf text (C.Types fault) place = IsTypePlace text fault.statement fault.cause place
IsPlaceOf text (C.Guard number fault) place = IsBeginOf text number place
IsPlaceOf text C.Memory place = ⊥
