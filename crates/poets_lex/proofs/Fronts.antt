-- The longest front of bytes that pass a test.
use Rattle.std.proofs.Common.{◌≡◌, ℕ, zero, suc, ◌+◌, ◌<◌, ◌↔◌, Bool, true, false, ◌&&◌, List, [], ◌∷◌, length, get_or, take, drop, refl, sym, ◌∙◌, arith, cond, one-add}
use Rattle.std.specs.Bool.{IsTrue}
use Rattle.std.specs.List.{list_all, prefix_len}
use Rattle.std.specs.Char.{is_ascii_digit}
use Rattle.std.specs.Str.{IsAscii}
use Rattle.std.proofs.lemmas.Bool.Decides.{nat_tests}
use Rattle.poets_lex.specs.Bytes.{BeginsWithout, begins_name, is_in_name}
use Rattle.poets_lex.specs.Table.{HasNameShape}
use Rattle.poets_lex.specs.Lexes.{IsNumber}
use Rattle.poets_lex.specs.code.Front.{BeginsWith}

pub both : (a b : Bool) → (a && b) ≡ true → (a ≡ true) × (b ≡ true)
both true b h = (refl, h)
both false b h = absurd cc

passes-cons : (p : ℕ → Bool) (byte : ℕ) (text : List ℕ) (b : Bool) → p byte ≡ b → IsTrue (list_all p (take (prefix_len p text) text)) → IsTrue (list_all p (take (cond b (1 + prefix_len p text) 0) (byte ∷ text)))
passes-cons p byte text true e h = rw (one-add, e) h
passes-cons p byte text false e h = refl

pub front-passes : (p : ℕ → Bool) (text : List ℕ) → IsTrue (list_all p (take (prefix_len p text) text))
front-passes p [] = refl
front-passes p (byte ∷ text) = passes-cons p byte text (p byte) refl (front-passes p text)

ends-cons : (p : ℕ → Bool) (byte : ℕ) (text : List ℕ) (b : Bool) → p byte ≡ b → BeginsWithout p (drop (prefix_len p text) text) → BeginsWithout p (drop (cond b (1 + prefix_len p text) 0) (byte ∷ text))
ends-cons p byte text true e h = rw one-add h
ends-cons p byte text false e h = e

pub front-ends : (p : ℕ → Bool) (text : List ℕ) → BeginsWithout p (drop (prefix_len p text) text)
front-ends p [] = tt
front-ends p (byte ∷ text) = ends-cons p byte text (p byte) refl (front-ends p text)

pub front-some : (p : ℕ → Bool) (text : List ℕ) → BeginsWith p text → 0 < prefix_len p text
front-some p [] h = absurd h
front-some p (byte ∷ text) h = rw h (omega arith)

-- a front with its first byte
pub front-cons : (p : ℕ → Bool) (byte : ℕ) (text : List ℕ) → IsTrue (p byte) → take (prefix_len p (byte ∷ text)) (byte ∷ text) ≡ byte ∷ take (prefix_len p text) text
front-cons p byte text h = rw (h, one-add) refl

-- the digits that begin a text are a number
pub number-front : (text : List ℕ) → BeginsWith is_ascii_digit text → IsNumber (take (prefix_len is_ascii_digit text) text)
number-front [] h = absurd h
number-front (byte ∷ text) h =
    let e = front-cons is_ascii_digit byte text h in
    (λ none. absurd (let k : byte ∷ take (prefix_len is_ascii_digit text) text ≡ [] = sym e ∙ none in cc), front-passes is_ascii_digit (byte ∷ text))

pub letter-in-name : (byte : ℕ) → IsTrue (begins_name byte) → IsTrue (is_in_name byte)
letter-in-name byte h = grind (arith, nat_tests)

-- the letters, digits and `_` that begin a text with a letter or `_` have the shape of a name
pub name-front : (text : List ℕ) → BeginsWith begins_name text → HasNameShape (take (prefix_len is_in_name text) text)
name-front [] h = absurd h
name-front (byte ∷ text) h =
    rw (front-cons is_in_name byte text (letter-in-name byte h)) (h, front-passes is_in_name text)

-- a text that begins with a letter or `_` has that shape exactly where all bytes after it are letters, digits and `_`
pub name-shape : (text : List ℕ) (all : Bool) → 0 < length text → IsTrue (begins_name (get_or text 0 0)) → all ≡ list_all is_in_name (drop 1 text) → IsTrue all ↔ HasNameShape text
name-shape [] all some first e = absurd (omega arith)
name-shape (byte ∷ text) all some first e = (λ t. (first, sym e ∙ t), λ shape. e ∙ shape.1)

pub in-name-ascii : (byte : ℕ) → IsTrue (is_in_name byte) → byte < 128
in-name-ascii byte h = grind (arith, nat_tests)

-- they are ASCII
pub name-ascii : (bytes : List ℕ) → IsTrue (list_all is_in_name bytes) → IsAscii bytes
name-ascii [] h i = omega arith
name-ascii (byte ∷ bytes) h zero = in-name-ascii byte (both (is_in_name byte) (list_all is_in_name bytes) h).0
name-ascii (byte ∷ bytes) h (suc i) = name-ascii bytes (both (is_in_name byte) (list_all is_in_name bytes) h).1 i
