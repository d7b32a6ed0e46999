-- The first byte of a piece tells its kind.
use Rattle.std.proofs.Common.{◌≡◌, ℕ, List, [], ◌∷◌, ◌++◌, refl, sym, ◌∙◌, arith, cond, ◌==◌}
use Rattle.std.specs.Bool.{IsTrue}
use Rattle.std.specs.List.{list_all}
use Rattle.std.specs.Char.{is_ascii_digit}
use Rattle.std.proofs.lemmas.Bool.Decides.{nat_tests}
use Rattle.poets_lex.specs.declared.token.Sign.{Sign}
use Rattle.poets_lex.specs.declared.token.Sign.TheVariants as S
use Rattle.poets_lex.specs.declared.token.Tok.{Tok}
use Rattle.poets_lex.specs.declared.token.Tok.TheVariants as K
use Rattle.poets_lex.specs.Bytes.{is_blank, begins_name}
use Rattle.poets_lex.specs.Texts.{word_text, sign_text}
use Rattle.poets_lex.specs.Table.{Table, HasNameShape}
use Rattle.poets_lex.specs.Lexes.{IsNumber, IsTextOf}
use Rattle.poets_lex.proofs.Fronts.{both}
use Rattle.poets_lex.proofs.TextsApart.{word-shape}

-- 0 blank, 1 comment, 2 word or name, 3 number, 4 day, 5 sign or nothing
abbrev pub class_of : ℕ → ℕ
class_of byte = cond (is_blank byte) 0 (cond (byte == 35) 1 (cond (begins_name byte) 2 (cond (is_ascii_digit byte) 3 (cond (byte == 64) 4 5))))

-- the text begins with a byte of this class
abbrev pub BeginsClass : ℕ → List ℕ → Type 0
BeginsClass class [] = ⊥
BeginsClass class (byte ∷ _) = class_of byte ≡ class

pub letter-class : (byte : ℕ) → IsTrue (begins_name byte) → class_of byte ≡ 2
letter-class byte h = grind (arith, nat_tests)

pub digit-class : (byte : ℕ) → IsTrue (is_ascii_digit byte) → class_of byte ≡ 3
digit-class byte h = grind (arith, nat_tests)

pub blank-class : (byte : ℕ) → IsTrue (is_blank byte) → class_of byte ≡ 0
blank-class byte h = rw h refl

pub name-class : (bytes : List ℕ) → HasNameShape bytes → BeginsClass 2 bytes
name-class [] h = absurd h
name-class (byte ∷ bytes) h = letter-class byte h.0

pub number-class : (bytes : List ℕ) → IsNumber bytes → BeginsClass 3 bytes
number-class [] h = absurd (h.0 refl)
number-class (byte ∷ bytes) h = digit-class byte (both (is_ascii_digit byte) (list_all is_ascii_digit bytes) h.1).0

pub sign-class : (sign : Sign) → BeginsClass 5 (sign_text sign)
sign-class S.DoubleSemicolon = refl
sign-class sign = refl

abbrev pub class_of_token : Tok → ℕ
class_of_token (K.Word _) = 2
class_of_token (K.Name _) = 2
class_of_token (K.Number _) = 3
class_of_token (K.Day _) = 4
class_of_token (K.Sign _) = 5

pub token-class : (table : Table) (what : Tok) (bytes : List ℕ) → IsTextOf table what bytes → BeginsClass (class_of_token what) bytes
token-class table (K.Word word) bytes is = rw is (name-class (word_text word) (word-shape word))
token-class table (K.Name _) bytes is = name-class bytes is.0.shape
token-class table (K.Number _) bytes is = number-class bytes is.0
token-class table (K.Day _) bytes is = rw is.1 refl
token-class table (K.Sign sign) bytes is = rw is (sign-class sign)

-- a front's class is its text's
pub class-append : (class : ℕ) (bytes rest : List ℕ) → BeginsClass class bytes → BeginsClass class (bytes ++ rest)
class-append class [] rest h = absurd h
class-append class (byte ∷ bytes) rest h = h

-- a text has one class
pub class-is : (a b : ℕ) (text : List ℕ) → BeginsClass a text → BeginsClass b text → a ≡ b
class-is a b [] h k = absurd h
class-is a b (byte ∷ text) h k = sym h ∙ k
