-- What begins a text, from the longest front of its kind.
use Rattle.std.proofs.Common.{◌≡◌, ◌≢◌, ℕ, suc, ◌+◌, ◌^◌, ◌<◌, ◌≤◌, List, [], ◌∷◌, ◌++◌, length, get_or, take, drop, slice_range, refl, sym, ap, ◌∙◌, arith, Some, ◌-◌, ℤ, pos, Bool, one-add}
use Rattle.std.specs.Bool.{IsTrue}
use Rattle.std.specs.List.{prefix_len}
use Rattle.std.specs.Char.{is_ascii_digit}
use Rattle.std.specs.Str.{IsAscii}
use Rattle.std.proofs.lemmas.List.{append-nil, take-append-drop, take_at}
use Rattle.std.proofs.lemmas.List.Folds.{length-prefix_len}
use Rattle.poets_value.specs.declared.value.Name.{Name}
use Rattle.poets_value.specs.Civil.{IsDayText}
use Rattle.poets_lex.specs.declared.token.Word.{Word}
use Rattle.poets_lex.specs.declared.token.Tok.{Tok}
use Rattle.poets_lex.specs.declared.token.Tok.TheVariants as K
use Rattle.poets_lex.specs.declared.token.Token.{Token}
use Rattle.poets_lex.specs.Bytes.{is_blank, begins_name, is_in_name, is_in_line, decimal, Begins}
use Rattle.poets_lex.specs.Texts.{word_text}
use Rattle.poets_lex.specs.Table.{Table, IsName, place_of, with_text}
use Rattle.poets_lex.specs.Lexes.{IsDay, Piece, IsTextOf, IsLongest, IsLongNumber, IsLongName, table_with}
use Rattle.poets_lex.specs.code.Front.{BeginsWith, FirstToken, TakesPiece}
use Rattle.poets_lex.proofs.Fronts.{front-passes, front-ends, number-front, name-front, name-ascii}

-- the token that ends where the bytes end that pass
token-front : (p : ℕ → Bool) (before : Table) (place : ℕ) (text : List ℕ) (what : Tok) (after : Table) → IsTextOf after what (take (prefix_len p text) text) → IsLongest what (drop (prefix_len p text) text) → after ≡ table_with what (take (prefix_len p text) text) before → FirstToken before place text (record { what = what; from = place; to = place + prefix_len p text }) after
token-front p before place text what after is long table = record {
  bytes = take (prefix_len p text) text;
  rest = drop (prefix_len p text) text;
  cut = sym (take-append-drop (prefix_len p text) text);
  lexeme = record { text = is; longest = long; from = refl; to = ap (λ n. place + n) (sym (length-prefix_len p text)); table = table };
}

pub number-token : (table : Table) (place : ℕ) (text : List ℕ) (number : ℤ) → BeginsWith is_ascii_digit text → number ≡ pos (decimal (take (prefix_len is_ascii_digit text) text)) → decimal (take (prefix_len is_ascii_digit text) text) < 2 ^ 63 → FirstToken table place text (record { what = K.Number number; from = place; to = place + prefix_len is_ascii_digit text }) table
number-token table place text number digit e small =
    token-front is_ascii_digit table place text (K.Number number) table (number-front text digit, small, e) (front-ends is_ascii_digit text) refl

pub number-long : (text : List ℕ) → BeginsWith is_ascii_digit text → 2 ^ 63 ≤ decimal (take (prefix_len is_ascii_digit text) text) → IsLongNumber text
number-long text digit large = record {
  bytes = take (prefix_len is_ascii_digit text) text;
  rest = drop (prefix_len is_ascii_digit text) text;
  cut = sym (take-append-drop (prefix_len is_ascii_digit text) text);
  digits = number-front text digit;
  longest = front-ends is_ascii_digit text;
  long = large;
}

pub word-token : (table : Table) (place : ℕ) (text : List ℕ) (word : Word) → take (prefix_len is_in_name text) text ≡ word_text word → FirstToken table place text (record { what = K.Word word; from = place; to = place + prefix_len is_in_name text }) table
word-token table place text word is =
    token-front is_in_name table place text (K.Word word) table is (front-ends is_in_name text) refl

pub name-token : (before : Table) (place : ℕ) (text : List ℕ) (name : Name) (after : Table) → IsName (take (prefix_len is_in_name text) text) → place_of (take (prefix_len is_in_name text) text) after ≡ Some name.id → after ≡ with_text (take (prefix_len is_in_name text) text) before → FirstToken before place text (record { what = K.Name name; from = place; to = place + prefix_len is_in_name text }) after
name-token before place text name after is at table =
    token-front is_in_name before place text (K.Name name) after (is, at) (front-ends is_in_name text) table

pub name-long : (text : List ℕ) → BeginsWith begins_name text → 64 < prefix_len is_in_name text → IsLongName text
name-long text letter large = record {
  bytes = take (prefix_len is_in_name text) text;
  rest = drop (prefix_len is_in_name text) text;
  cut = sym (take-append-drop (prefix_len is_in_name text) text);
  shape = name-front text letter;
  longest = front-ends is_in_name text;
  long = omega (arith, length-prefix_len is_in_name text);
}

pub name-front-ascii : (text : List ℕ) → IsAscii (take (prefix_len is_in_name text) text)
name-front-ascii text = name-ascii (take (prefix_len is_in_name text) text) (front-passes is_in_name text)

pub name-front-is : (text : List ℕ) → BeginsWith begins_name text → prefix_len is_in_name text ≤ 64 → ((word : Word) → take (prefix_len is_in_name text) text ≢ word_text word) → IsName (take (prefix_len is_in_name text) text)
name-front-is text letter short free = record { shape = name-front text letter; short = omega (arith, length-prefix_len is_in_name text); not_reserved = free }

pub day-length : {text : List ℕ} {day : ℤ} → IsDayText text day → length text ≡ 10
day-length h = ap length h.bytes

pub day-token : (table : Table) (place : ℕ) (text : List ℕ) (day : ℤ) → 11 ≤ length text → get_or text 0 0 ≡ 64 → IsDayText (slice_range text 1 11) day → FirstToken table place text (record { what = K.Day day; from = place; to = place + 11 }) table
day-token table place [] day long first h = absurd (omega arith)
day-token table place (byte ∷ text) day long first h = record {
  bytes = byte ∷ take 10 text;
  rest = drop 10 text;
  cut = ap (λ t. byte ∷ t) (sym (take-append-drop 10 text));
  lexeme = record { text = (take 10 text, ap (λ b. b ∷ take 10 text) first, h); longest = tt; from = refl; to = ap (λ n. place + suc n) (sym (day-length h)); table = refl };
}

pub no-day : (text : List ℕ) → ((day : ℤ) → ¬ (IsDayText (slice_range text 1 11) day)) → (front : List ℕ) (day : ℤ) → IsDay front day → ¬ (Begins front text)
no-day text none front day h begins =
    let cut : text ≡ 64 ∷ h.0 ++ begins.0 = begins.1 ∙ ap (λ f. f ++ begins.0) h.1 in
    let ten = day-length h.2 in
    let same : slice_range text 1 11 ≡ h.0 = rw cut (take_at h.0 begins.0 10 ten) in
    none day (rw same h.2)

pub blank-piece : (table : Table) (place : ℕ) (text : List ℕ) (tokens : List Token) → 0 < length text → IsTrue (is_blank (get_or text 0 0)) → TakesPiece table place text tokens 1 tokens table
blank-piece table place [] tokens some blank = absurd (omega arith)
blank-piece table place (byte ∷ text) tokens some blank = record { bytes = byte ∷ []; rest = text; here = []; cut = refl; sized = refl; piece = Piece.Blank byte blank; added = sym (append-nil tokens) }

pub comment-piece : (table : Table) (place : ℕ) (text : List ℕ) (tokens : List Token) → 0 < length text → get_or text 0 0 ≡ 35 → TakesPiece table place text tokens (prefix_len is_in_line text) tokens table
comment-piece table place [] tokens some first = absurd (omega arith)
comment-piece table place (byte ∷ text) tokens some first =
    let n = prefix_len is_in_line text in
    let line : prefix_len is_in_line (byte ∷ text) ≡ suc n = rw (first, one-add) refl in
    record {
      bytes = 35 ∷ take n text;
      rest = drop n text;
      here = [];
      cut = rw (take-append-drop, first) refl;
      sized = rw (line, length-prefix_len) refl;
      piece = Piece.Comment (take n text) (front-passes is_in_line text) (front-ends is_in_line text);
      added = sym (append-nil tokens);
    }

pub token-piece : (before : Table) (place : ℕ) (text : List ℕ) (token : Token) (after : Table) (old new : List Token) → FirstToken before place text token after → new ≡ old ++ token ∷ [] → TakesPiece before place text old (token.to - token.from) new after
token-piece before place text token after old new first added = record {
  bytes = first.bytes;
  rest = first.rest;
  here = token ∷ [];
  cut = first.cut;
  sized = omega (arith, first.lexeme.from, first.lexeme.to);
  piece = Piece.Lexeme token first.lexeme;
  added = added;
}
