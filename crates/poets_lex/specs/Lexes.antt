-- How a text is cut into tokens.
use Rattle.std.specs.Prelude.{◌≡◌, ◌≢◌, ℕ, ◌+◌, ◌≤◌, ◌<◌, ◌^◌, false, List, [], ◌∷◌, ◌++◌, length}
use Rattle.std.specs.Prelude.{Some, IsTrue, ℤ, pos}
use Rattle.std.specs.List.{list_all}
use Rattle.std.specs.Char.{is_ascii_digit}
use Rattle.poets_value.specs.Civil.{IsDayText}
use Rattle.poets_lex.specs.declared.token.Sign.{Sign}
use Rattle.poets_lex.specs.declared.token.Tok.{Tok}
use Rattle.poets_lex.specs.declared.token.Tok.TheVariants as K
use Rattle.poets_lex.specs.declared.token.Token.{Token}
use Rattle.poets_lex.specs.declared.fault.LexFault.{LexFault}
use Rattle.poets_lex.specs.declared.fault.LexFault.TheVariants as F
use Rattle.poets_lex.specs.Bytes.{is_blank, is_in_line, begins_name, is_in_name, decimal}
use Rattle.poets_lex.specs.Bytes.{BeginsWithout, Begins}
use Rattle.poets_lex.specs.Texts.{word_text, sign_text}
use Rattle.poets_lex.specs.Table.{Table, HasNameShape, IsName, place_of, with_text}

-- one digit or more
abbrev pub IsNumber : List ℕ → Type 0
IsNumber bytes = (bytes ≢ []) × IsTrue (list_all is_ascii_digit bytes)

-- `@` and the ten bytes of a day
abbrev pub IsDay : List ℕ → ℤ → Type 0
IsDay bytes day = (text : List ℕ) × (bytes ≡ 64 ∷ text) × IsDayText text day

-- the bytes of a token; a name is the place of its bytes in the table
abbrev pub IsTextOf : Table → Tok → List ℕ → Type 0
IsTextOf table (K.Word word) bytes = bytes ≡ word_text word
IsTextOf table (K.Name name) bytes = IsName bytes × (place_of bytes table ≡ Some name.id)
IsTextOf table (K.Number number) bytes = IsNumber bytes × (decimal bytes < 2 ^ 63) × (number ≡ pos (decimal bytes))
IsTextOf table (K.Day day) bytes = IsDay bytes day
IsTextOf table (K.Sign sign) bytes = bytes ≡ sign_text sign

-- no longer sign begins the text that this sign begins
abbrev pub IsLongestSign : Sign → List ℕ → Type 0
IsLongestSign sign text =
    (other : Sign) → Begins (sign_text other) text → length (sign_text other) ≤ length (sign_text sign)

-- what follows a token would not make it longer
abbrev pub IsLongest : Tok → List ℕ → Type 0
IsLongest (K.Word _) rest = BeginsWithout is_in_name rest
IsLongest (K.Name _) rest = BeginsWithout is_in_name rest
IsLongest (K.Number _) rest = BeginsWithout is_ascii_digit rest
IsLongest (K.Day _) rest = Unit {0}
IsLongest (K.Sign sign) rest = IsLongestSign sign (sign_text sign ++ rest)

-- the table after a token
abbrev pub table_with : Tok → List ℕ → Table → Table
table_with (K.Name _) bytes before = with_text bytes before
table_with _ bytes before = before

-- the bytes, which begin at the place and have this rest after them, are the token
pub record IsToken (before : Table) (place : ℕ) (bytes rest : List ℕ) (token : Token) (after : Table) : Type 0 where
  pub text : IsTextOf after token.what bytes
  pub longest : IsLongest token.what rest
  pub from : token.from ≡ place
  pub to : token.to ≡ place + length bytes
  pub table : after ≡ table_with token.what bytes before

-- one piece of a text: a blank, a comment or a token
pub data Piece : Table → ℕ → List ℕ → List ℕ → List Token → Table → Type 0 where
  Blank : {table : Table} {place : ℕ} {rest : List ℕ} (byte : ℕ) → IsTrue (is_blank byte) →
      Piece table place (byte ∷ []) rest [] table
  -- from `#` (35) to before the next LF, or to the end
  Comment : {table : Table} {place : ℕ} {rest : List ℕ} (bytes : List ℕ) → IsTrue (list_all is_in_line bytes) →
      BeginsWithout is_in_line rest → Piece table place (35 ∷ bytes) rest [] table
  Lexeme : {before after : Table} {place : ℕ} {bytes rest : List ℕ} (token : Token) →
      IsToken before place bytes rest token after → Piece before place bytes rest (token ∷ []) after

-- piece by piece: the text, which begins at the place, is read as these tokens up to the rest
pub data Reads : Table → List ℕ → ℕ → List Token → Table → List ℕ → Type 0 where
  Nothing : {table : Table} {text : List ℕ} {place : ℕ} → Reads table text place [] table text
  Next : {before between after : Table} {bytes text rest : List ℕ} {place : ℕ} {here tokens : List Token} →
      Piece before place bytes text here between → Reads between text (place + length bytes) tokens after rest →
      Reads before (bytes ++ text) place (here ++ tokens) after rest

-- the whole text, which begins at the place, is these tokens; names are numbered from the table
-- before to the table after
abbrev pub Lexes : Table → List ℕ → ℕ → List Token → Table → Type 0
Lexes before text place tokens after = Reads before text place tokens after []

-- the first byte begins no blank, comment, name, number, day or sign, not even one that is too long
pub record IsBadByte (text : List ℕ) : Type 0 where
  pub byte : ℕ
  pub bytes : List ℕ
  pub first : text ≡ byte ∷ bytes
  pub no_blank : is_blank byte ≡ false
  pub no_comment : byte ≢ 35
  pub no_name : begins_name byte ≡ false
  pub no_number : is_ascii_digit byte ≡ false
  pub no_day : (front : List ℕ) (day : ℤ) → IsDay front day → ¬ (Begins front text)
  pub no_sign : (sign : Sign) → ¬ (Begins (sign_text sign) text)

-- a number past 2 ^ 63 - 1 begins the text
pub record IsLongNumber (text : List ℕ) : Type 0 where
  pub bytes : List ℕ
  pub rest : List ℕ
  pub cut : text ≡ bytes ++ rest
  pub digits : IsNumber bytes
  pub longest : BeginsWithout is_ascii_digit rest
  pub long : 2 ^ 63 ≤ decimal bytes

-- a name of more than 64 bytes begins the text
pub record IsLongName (text : List ℕ) : Type 0 where
  pub bytes : List ℕ
  pub rest : List ℕ
  pub cut : text ≡ bytes ++ rest
  pub shape : HasNameShape bytes
  pub longest : BeginsWithout is_in_name rest
  pub long : 64 < length bytes

-- the text, which begins at the place, begins with the fault
abbrev pub IsFaultAt : ℕ → List ℕ → LexFault → Type 0
IsFaultAt place text (F.BadByte at) = (at ≡ place) × IsBadByte text
IsFaultAt place text (F.LongNumber at) = (at ≡ place) × IsLongNumber text
IsFaultAt place text (F.LongName at) = (at ≡ place) × IsLongName text
IsFaultAt place text F.Memory = ⊥

-- the fault is `Memory`, or this holds of it
abbrev pub UnlessMemory : (LexFault → Type 0) → LexFault → Type 0
UnlessMemory P fault = fault ≢ F.Memory → P fault

-- the text is read as tokens up to the fault
pub record FirstFault (before : Table) (text : List ℕ) (fault : LexFault) : Type 0 where
  pub tokens : List Token
  pub after : Table
  pub rest : List ℕ
  pub place : ℕ
  pub read : Reads before text 0 tokens after rest
  pub here : place + length rest ≡ length text
  pub found : IsFaultAt place rest fault
