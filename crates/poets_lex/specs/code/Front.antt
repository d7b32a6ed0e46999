-- What begins a text.
use Rattle.std.specs.Prelude.{◌≡◌, ℕ, List, [], ◌∷◌, ◌++◌, Bool, not, ◌&&◌, ◌==◌, length, IsTrue, ℤ}
use Rattle.poets_lex.specs.Bytes.{is_blank, Begins}
use Rattle.poets_lex.specs.declared.token.Token.{Token}
use Rattle.poets_lex.specs.Table.{Table}
use Rattle.poets_lex.specs.Lexes.{IsDay, IsToken, Piece}

-- the text begins with a byte that passes
abbrev pub BeginsWith : (ℕ → Bool) → List ℕ → Type 0
BeginsWith passes [] = ⊥
BeginsWith passes (byte ∷ _) = IsTrue (passes byte)

-- neither a blank nor `#` (35)
abbrev pub is_in_lexeme : ℕ → Bool
is_in_lexeme byte = not (is_blank byte) && not (byte == 35)

-- the token begins the text, which begins at the place
pub record FirstToken (before : Table) (place : ℕ) (text : List ℕ) (token : Token) (after : Table) : Type 0 where
  pub bytes : List ℕ
  pub rest : List ℕ
  pub cut : text ≡ bytes ++ rest
  pub lexeme : IsToken before place bytes rest token after

-- the token begins the text, which begins at the place, and leaves each table as it is
abbrev pub FirstForEachTable : ℕ → List ℕ → Token → Type 0
FirstForEachTable place text token = (table : Table) → FirstToken table place text token table

-- no day begins the text
abbrev pub BeginsWithNoDay : List ℕ → Type 0
BeginsWithNoDay text = (front : List ℕ) (day : ℤ) → IsDay front day → ¬ (Begins front text)

-- the piece of so many bytes begins the text, which begins at the place; its token, if it is one,
-- stands after the others
pub record TakesPiece (before : Table) (place : ℕ) (text : List ℕ) (old : List Token) (size : ℕ) (new : List Token)
    (after : Table) : Type 0 where
  pub bytes : List ℕ
  pub rest : List ℕ
  pub here : List Token
  pub cut : text ≡ bytes ++ rest
  pub sized : size ≡ length bytes
  pub piece : Piece before place bytes rest here after
  pub added : new ≡ old ++ here
