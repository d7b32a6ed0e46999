-- Texts written token by token are cut into these tokens.
use Rattle.std.proofs.Common.{◌≡◌, ℕ, ◌+◌, ◌/◌, ◌%◌, ◌^◌, ◌<◌, ◌≤◌, Bool, true, false, List, [], ◌∷◌, ◌++◌, length, get_or, map, refl, sym, ap, ◌∙◌, arith, ℤ, pos, slice_get}
use Rattle.std.specs.Bool.{IsTrue}
use Rattle.std.specs.Prelude.{unwrap_or, not, ◌||◌, ◌==◌}
use Rattle.std.specs.Fmt as F
use Rattle.std.specs.List.{list_all}
use Rattle.std.specs.Str.{bytes_eq}
use Rattle.std.specs.Char.{is_ascii_digit}
use Rattle.std.proofs.lemmas.Bool.Decides.{nat_tests}
use Rattle.std.proofs.lemmas.Fmt.{decimal_by_steps}
use Rattle.std.proofs.lemmas.Option.{slice_get-get_or}
use Rattle.std.proofs.lemmas.List.Folds.{list_all-append}
use Rattle.std.proofs.lemmas.List.Sums.{fold-append}
use Rattle.poets_value.specs.declared.value.Name.{Name}
use Rattle.poets_value.specs.Civil.{IsDayText}
use Rattle.poets_lex.specs.declared.token.Word.{Word}
use Rattle.poets_lex.specs.declared.token.Sign.{Sign}
use Rattle.poets_lex.specs.declared.token.Sign.TheVariants as S
use Rattle.poets_lex.specs.declared.token.Tok.{Tok}
use Rattle.poets_lex.specs.declared.token.Tok.TheVariants as K
use Rattle.poets_lex.specs.declared.token.Token.{Token}
use Rattle.poets_lex.specs.Bytes.{is_in_name, decimal, BeginsWithout}
use Rattle.poets_lex.specs.Texts.{word_text, sign_text}
use Rattle.poets_lex.specs.Table.{Table, IsTable}
use Rattle.poets_lex.specs.Lexes.{IsNumber, IsTextOf, IsLongest, IsLongestSign, table_with, Piece, Reads, Lexes}
use Rattle.poets_lex.proofs.Found.{known}
use Rattle.poets_lex.proofs.Fronts.{both}

-- the text, wherever it begins, is these tokens, and the table stays
pub record IsCutInto (table : Table) (text : List ℕ) (kinds : List Tok) : Type 0 where
  pub at : (place : ℕ) → (tokens : List Token) × Lexes table text place tokens table × (map (λ t. t.what) tokens ≡ kinds)

pub cut_end : {table : Table} → IsCutInto table [] []
cut_end = record { at = λ place. ([], Reads.Nothing, refl) }

pub cut_space : {table : Table} {rest : List ℕ} {kinds : List Tok} → IsCutInto table rest kinds → IsCutInto table (32 ∷ rest) kinds
cut_space h = record { at = λ place. let next = h.at (place + 1) in (next.0, Reads.Next (Piece.Blank 32 refl) next.1, next.2) }

-- a token before a text
cut_token : {table : Table} {rest : List ℕ} {kinds : List Tok} (what : Tok) (bytes : List ℕ) →
    IsTextOf table what bytes → IsLongest what rest → table ≡ table_with what bytes table → IsCutInto table rest kinds → IsCutInto table (bytes ++ rest) (what ∷ kinds)
cut_token what bytes is long same h = record {
  at = λ place.
      let next = h.at (place + length bytes) in
      let token : Token = record { what = what; from = place; to = place + length bytes } in
      (token ∷ next.0, Reads.Next (Piece.Lexeme token (record { text = is; longest = long; from = refl; to = refl; table = same })) next.1, ap (λ ks. what ∷ ks) next.2);
}

pub cut_word : {table : Table} {rest : List ℕ} {kinds : List Tok} (word : Word) → IsCutInto table rest kinds → BeginsWithout is_in_name rest → IsCutInto table (word_text word ++ rest) (K.Word word ∷ kinds)
cut_word word h end = cut_token (K.Word word) (word_text word) refl end refl h

pub cut_name : {table : Table} {rest : List ℕ} {kinds : List Tok} (x : Name) → IsTable table → x.id < length table → IsCutInto table rest kinds → BeginsWithout is_in_name rest →
    IsCutInto table (unwrap_or (slice_get table x.id) [] ++ rest) (K.Name x ∷ kinds)
cut_name {table = table} x all low h end =
    let here = slice_get-get_or table x.id [] low in
    let text = get_or table x.id [] in
    let name = all text x.id here in
    rw here (cut_token (K.Name x) text name end (rw (known (bytes_eq text) table x.id name.1) refl) h)

pub cut_day : {table : Table} {rest : List ℕ} {kinds : List Tok} (text : List ℕ) (day : ℤ) → IsDayText text day → IsCutInto table rest kinds → IsCutInto table (64 ∷ (text ++ rest)) (K.Day day ∷ kinds)
cut_day text day is h = cut_token (K.Day day) (64 ∷ text) (text, refl, is) tt refl h

push_some : (xs : List ℕ) (x : ℕ) → xs ++ x ∷ [] ≡ [] → ⊥
push_some [] x e = absurd (cc)
push_some (y ∷ xs) x e = absurd (cc)

-- the printed digits of a number are that number
digits_written : (n : ℕ) → n < 2 ^ 64 → IsNumber (F.decimal n) × (decimal (F.decimal n) ≡ n)
digits_written = decimal_by_steps (λ m ds. IsNumber ds × (decimal ds ≡ m)) one more
  where
    one : (m : ℕ) → m < 10 → IsNumber ((48 + m) ∷ []) × (decimal ((48 + m) ∷ []) ≡ m)
    one m low = ((λ e. absurd (cc), grind (arith, nat_tests)), omega arith)

    more : (m : ℕ) (ds : List ℕ) → 10 ≤ m → IsNumber ds × (decimal ds ≡ m / 10) → IsNumber (ds ++ (48 + m % 10) ∷ []) × (decimal (ds ++ (48 + m % 10) ∷ []) ≡ m)
    more m ds high h = ((λ e. absurd (push_some ds (48 + m % 10) e), rw (list_all-append, h.0.1) (grind (arith, nat_tests))), rw (fold-append, h.1) (omega arith))

no_digit : (rest : List ℕ) → BeginsWithout is_in_name rest → BeginsWithout is_ascii_digit rest
no_digit [] end = tt
no_digit (byte ∷ rest) end = grind (arith, nat_tests)

pub cut_number : {table : Table} {rest : List ℕ} {kinds : List Tok} (n : ℕ) → n < 2 ^ 63 → IsCutInto table rest kinds → BeginsWithout is_in_name rest → IsCutInto table (F.decimal n ++ rest) (K.Number (pos n) ∷ kinds)
cut_number {rest = rest} n low h end =
    let is = digits_written n (omega arith) in
    cut_token (K.Number (pos n)) (F.decimal n) (is.0, omega (arith, is.1), ap pos (sym is.1)) (no_digit rest end) refl h

-- ---- signs

-- no sign has a space in it
spaceless : (sign : Sign) → IsTrue (list_all (λ byte. not (byte == 32)) (sign_text sign))
spaceless S.DoubleSemicolon = refl
spaceless sign = refl

-- a front without a space ends before the first space
before_space : (a b r s : List ℕ) → b ++ 32 ∷ s ≡ a ++ r → IsTrue (list_all (λ byte. not (byte == 32)) a) → length a ≤ length b
before_space [] b r s e h = omega arith
before_space (x ∷ a) [] r s e h = let first : x ≡ 32 = cc in absurd (let k : false ≡ true = rw first at h in cc)
before_space (x ∷ a) (y ∷ b) r s e h =
    let behind : b ++ 32 ∷ s ≡ a ++ r = cc in
    omega (arith, before_space a b r s behind (both (not (x == 32)) (list_all (λ byte. not (byte == 32)) a) h).1)

pub cut_spaced : {table : Table} {rest : List ℕ} {kinds : List Tok} (sign : Sign) → IsCutInto table rest kinds → IsCutInto table (sign_text sign ++ 32 ∷ rest) (K.Sign sign ∷ kinds)
cut_spaced {rest = rest} sign h =
    cut_token (K.Sign sign) (sign_text sign) refl (λ other begins. before_space (sign_text other) (sign_text sign) begins.0 rest begins.1 (spaceless other)) refl (cut_space h)

-- the first byte of a sign, with any text after it
first_byte : (sign : Sign) (rest : List ℕ) → get_or (sign_text sign ++ rest) 0 0 ≡ get_or (sign_text sign) 0 0
first_byte S.DoubleSemicolon rest = refl
first_byte sign rest = refl

sign_some : (sign : Sign) → 0 < length (sign_text sign)
sign_some S.DoubleSemicolon = omega arith
sign_some sign = omega arith

-- `;` (59), `|` (124), `<` (60) and `>` (62) begin signs of two bytes
abbrev pub begins_two : ℕ → Bool
begins_two byte = byte == 59 || byte == 124 || byte == 60 || byte == 62

one_byte : (sign : Sign) → begins_two (get_or (sign_text sign) 0 0) ≡ false → length (sign_text sign) ≤ 1
one_byte S.DoubleSemicolon h = absurd (cc)
one_byte S.DoubleBar h = absurd (cc)
one_byte S.LessEqual h = absurd (cc)
one_byte S.NotEqual h = absurd (cc)
one_byte S.GreaterEqual h = absurd (cc)
one_byte sign h = omega arith

pub cut_sign : {table : Table} {rest : List ℕ} {kinds : List Tok} (sign : Sign) → begins_two (get_or (sign_text sign) 0 0) ≡ false → IsCutInto table rest kinds → IsCutInto table (sign_text sign ++ rest) (K.Sign sign ∷ kinds)
cut_sign {rest = rest} sign lone h = cut_token (K.Sign sign) (sign_text sign) refl longest refl h
  where
    longest : IsLongestSign sign (sign_text sign ++ rest)
    longest other begins =
        let same : get_or (sign_text sign) 0 0 ≡ get_or (sign_text other) 0 0 = sym (first_byte sign rest) ∙ ap (λ t. get_or t 0 0) begins.1 ∙ first_byte other begins.0 in
        omega (arith, one_byte other (rw same at lone), sign_some sign)
