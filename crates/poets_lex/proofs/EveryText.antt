-- Every text is cut into tokens, or has a first fault. Neither is denied here: where a case is not tested, both of its answers
-- lead to a contradiction.
use Rattle.std.proofs.Common.{◌≡◌, ℕ, zero, suc, ◌+◌, ◌^◌, ◌<◌, ◌≤◌, true, false, List, [], ◌∷◌, ◌++◌, ◌⊎◌, inl, inr, ⊎_elim, Option, Some, None, length, length-append, take, refl, ap, subst, ◌∙◌, arith, pos}
use Rattle.std.specs.Char.{is_ascii_digit}
use Rattle.std.specs.List.{prefix_len}
use Rattle.std.specs.Str.{bytes_eq}
use Rattle.std.proofs.lemmas.Slice.Eq.{bytes_eq-Decides}
use Rattle.std.proofs.lemmas.Bool.{cases_Bool, cases_lt, cases_eq}
use Rattle.poets_lex.specs.declared.token.Sign.{Sign}
use Rattle.poets_lex.specs.declared.token.Sign.TheVariants as S
use Rattle.poets_lex.specs.declared.token.Tok.{Tok}
use Rattle.poets_lex.specs.declared.token.Tok.TheVariants as K
use Rattle.poets_lex.specs.declared.token.Token.{Token}
use Rattle.poets_lex.specs.declared.token.Word.{Word}
use Rattle.poets_lex.specs.declared.fault.LexFault.{LexFault}
use Rattle.poets_lex.specs.declared.fault.LexFault.TheVariants as F
use Rattle.poets_lex.specs.Bytes.{is_blank, begins_name, is_in_name, decimal, Begins}
use Rattle.poets_lex.specs.Texts.{word_text, sign_text}
use Rattle.poets_lex.specs.Table.{Table, place_of, with_text}
use Rattle.poets_lex.specs.Lexes.{IsTextOf, IsLongest, IsLongestSign, table_with, Piece, Reads, Lexes, IsFaultAt, FirstFault}
use Rattle.poets_lex.specs.code.Front.{FirstToken, TakesPiece}
use Rattle.poets_lex.specs.Laws.{EveryTextIsCut}
use Rattle.poets_lex.proofs.FirstBytes.{BeginsClass, class_of_token, token-class}
use Rattle.poets_lex.proofs.Found.{known, unknown, position-push}
use Rattle.poets_lex.proofs.Lexemes.{number-token, number-long, word-token, name-token, name-long, name-front-is, blank-piece, comment-piece}
use Rattle.poets_lex.proofs.Readings.{Reads-push}

-- neither a piece nor a fault begins the text
record IsStuck (before : Table) (place : ℕ) (text : List ℕ) : Type 0 where
  no_piece : (bytes rest : List ℕ) (here : List Token) (after : Table) → text ≡ bytes ++ rest → Piece before place bytes rest here after → ⊥
  no_fault : (fault : LexFault) → IsFaultAt place text fault → ⊥

no_token : {before after : Table} {place : ℕ} {text : List ℕ} {token : Token} → IsStuck before place text → FirstToken before place text token after → ⊥
no_token {after = after} {token = token} stuck first = stuck.no_piece first.bytes first.rest (token ∷ []) after first.cut (Piece.Lexeme token first.lexeme)

-- a text stands in the table that it is put into
placed_at : (text : List ℕ) (table : Table) (found : Option ℕ) → place_of text table ≡ found → (i : ℕ) × (place_of text (with_text text table) ≡ Some i)
placed_at text table (Some i) e = (i, rw (known (bytes_eq text) table i e) e)
placed_at text table None e =
    let new = unknown (bytes_eq text) table e in
    (length table, rw new (position-push (bytes_eq text) table text new ((bytes_eq-Decides text text).1 refl)))

no_name : (before : Table) (place : ℕ) (byte : ℕ) (text : List ℕ) → begins_name byte ≡ true → IsStuck before place (byte ∷ text) → ⊥
no_name before place byte text letter stuck =
    let all = byte ∷ text in let n = prefix_len is_in_name all in let front = take n all in
    ⊎_elim (λ large. stuck.no_fault (F.LongName place) (refl, name-long all letter large))
    (λ short.
    let no_word : (w : Word) → front ≡ word_text w → ⊥ = λ w e. no_token stuck (word-token before place all w e) in
    let at = placed_at front before (place_of front before) refl in
    no_token stuck (name-token before place all (record { id = at.0 }) (with_text front before) (name-front-is all letter short no_word) at.1 refl))
    (cases_lt 64 n)

no_number : (before : Table) (place : ℕ) (byte : ℕ) (text : List ℕ) → is_ascii_digit byte ≡ true → IsStuck before place (byte ∷ text) → ⊥
no_number before place byte text digit stuck =
    let all = byte ∷ text in let number = decimal (take (prefix_len is_ascii_digit all) all) in
    ⊎_elim (λ small. no_token stuck (number-token before place all (pos number) digit refl small))
    (λ large. stuck.no_fault (F.LongNumber place) (refl, number-long all digit large))
    (cases_lt number (2 ^ 63))

-- a day or a sign, which leaves the table as it is
no_plain : {before : Table} {place : ℕ} {text : List ℕ} (what : Tok) (bytes rest : List ℕ) → IsStuck before place text → text ≡ bytes ++ rest → IsTextOf before what bytes → IsLongest what rest →
    before ≡ table_with what bytes before → ⊥
no_plain {before = before} {place = place} what bytes rest stuck cut is longest same =
    let token : Token = record { what = what; from = place; to = place + length bytes } in
    stuck.no_piece bytes rest (token ∷ []) before cut (Piece.Lexeme token (record { text = is; longest = longest; from = refl; to = refl; table = same }))

no_longest : {before : Table} {place : ℕ} {text : List ℕ} → IsStuck before place text → (s : Sign) → Begins (sign_text s) text → IsLongestSign s text → ⊥
no_longest stuck s begins longest = no_plain (K.Sign s) (sign_text s) begins.0 stuck begins.1 refl (subst (IsLongestSign s) begins.1 longest) refl

sign-length : (s : Sign) → (1 ≤ length (sign_text s)) × (length (sign_text s) ≤ 2)
sign-length S.DoubleSemicolon = (omega arith, omega arith)
sign-length s = (omega arith, omega arith)

-- a sign that is not the longest has one byte, and a longer one two
no_sign : {before : Table} {place : ℕ} {text : List ℕ} → IsStuck before place text → (s : Sign) → Begins (sign_text s) text → ⊥
no_sign stuck s begins =
    no_longest stuck s begins
    (λ other longer.
    ⊎_elim (λ less. absurd (no_longest stuck other longer (λ third _. omega (arith, less, sign-length s, sign-length third))))
    (λ h. h)
    (cases_lt (length (sign_text s)) (length (sign_text other))))

-- a piece or a fault begins a text that is not empty
never_stuck : (before : Table) (place : ℕ) (byte : ℕ) (text : List ℕ) → IsStuck before place (byte ∷ text) → ⊥
never_stuck before place byte text stuck = by_byte (cases_Bool (is_blank byte)) (cases_eq byte 35) (cases_Bool (begins_name byte)) (cases_Bool (is_ascii_digit byte))
  where
    taken : {size : ℕ} {new : List Token} {after : Table} → TakesPiece before place (byte ∷ text) [] size new after → ⊥
    taken t = stuck.no_piece t.bytes t.rest t.here _ t.cut t.piece

    by_byte : (is_blank byte ≡ true) ⊎ (is_blank byte ≡ false) → (byte ≡ 35) ⊎ (byte ≡ 35 → ⊥) → (begins_name byte ≡ true) ⊎ (begins_name byte ≡ false) →
        (is_ascii_digit byte ≡ true) ⊎ (is_ascii_digit byte ≡ false) → ⊥
    by_byte (inl blank) comment letter digit = taken (blank-piece before place (byte ∷ text) [] (omega arith) blank)
    by_byte blank (inl comment) letter digit = taken (comment-piece before place (byte ∷ text) [] (omega arith) comment)
    by_byte blank comment (inl letter) digit = no_name before place byte text letter stuck
    by_byte blank comment letter (inl digit) = no_number before place byte text digit stuck
    by_byte (inr blank) (inr comment) (inr letter) (inr digit) =
        stuck.no_fault (F.BadByte place) (
          refl,
          record {
            byte = byte;
            bytes = text;
            first = refl;
            no_blank = blank;
            no_comment = comment;
            no_name = letter;
            no_number = digit;
            no_day = λ front day is begins. no_plain (K.Day day) front begins.0 stuck begins.1 is tt refl;
            no_sign = no_sign stuck;
          },
        )

-- ---- the whole text

-- a piece has bytes
class_some : (class : ℕ) (bytes : List ℕ) → BeginsClass class bytes → 0 < length bytes
class_some class [] h = absurd h
class_some class (byte ∷ bytes) h = omega arith

piece_some : {before after : Table} {place : ℕ} {bytes rest : List ℕ} {here : List Token} → Piece before place bytes rest here after → 0 < length bytes
piece_some (Piece.Blank byte blank) = omega arith
piece_some (Piece.Comment bytes line ends) = omega arith
piece_some (Piece.Lexeme {after = after} {bytes = bytes} token is) = class_some (class_of_token token.what) bytes (token-class after token.what bytes is.text)

-- neither tokens nor a fault
record IsUncut (before : Table) (text : List ℕ) : Type 0 where
  no_tokens : (tokens : List Token) (after : Table) → Lexes before text 0 tokens after → ⊥
  no_fault : (fault : LexFault) → FirstFault before text fault → ⊥

uncut-after : (before : Table) (most : ℕ) (text rest : List ℕ) (place : ℕ) (tokens : List Token) (names : Table) → IsUncut before text → length rest ≤ most →
    Reads before text 0 tokens names rest → place + length rest ≡ length text → ⊥
uncut-after before most text [] place tokens names none few read here = none.no_tokens tokens names read
uncut-after before zero text (byte ∷ rest) place tokens names none few read here = absurd (omega (arith, few))
uncut-after before (suc most) text (byte ∷ rest) place tokens names none few read here =
    never_stuck names place byte rest (record {
      no_piece = λ bytes later more after cut piece.
          let lengths : suc (length rest) ≡ length bytes + length later = ap length cut ∙ length-append bytes later in
          uncut-after before most text later (place + length bytes) (tokens ++ more) after none (omega (arith, few, lengths, piece_some piece))
          (Reads-push read (omega (arith, here)) cut piece) (omega (arith, here, lengths));
      no_fault = λ fault is. none.no_fault fault (record { tokens = tokens; after = names; rest = byte ∷ rest; place = place; read = read; here = here; found = is });
    })

pub every-text : EveryTextIsCut
every-text before text none free = uncut-after before (length text) text text 0 [] before (record { no_tokens = none; no_fault = free }) (omega arith) Reads.Nothing (omega arith)
