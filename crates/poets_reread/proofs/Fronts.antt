-- A text that a line end follows is read as it is alone, and the names behind it are numbered on from its table.
use Rattle.std.proofs.Common.{◌≡◌, ℕ, ◌+◌, ◌≤◌, Bool, false, List, [], ◌∷◌, ◌++◌, length, get_or, refl, sym, ap, subst, ◌∙◌, inl, inr, arith, append_assoc, length-append}
use Rattle.std.proofs.lemmas.Bool.{cases_lt}
use Rattle.std.proofs.lemmas.List.{append_cancel_left, get_or_append_left}
use Rattle.std.proofs.Math.Seq.{get_or-append_seam}
use Rattle.std.specs.Char.{is_ascii_digit}
use Rattle.poets_lex.specs.declared.token.Sign.{Sign}
use Rattle.poets_lex.specs.declared.token.Sign.TheVariants as S
use Rattle.poets_lex.specs.declared.token.Tok.{Tok}
use Rattle.poets_lex.specs.declared.token.Tok.TheVariants as K
use Rattle.poets_lex.specs.declared.token.Token.{Token}
use Rattle.poets_lex.specs.Bytes.{is_in_line, is_in_name, BeginsWithout}
use Rattle.poets_lex.specs.Table.{Table}
use Rattle.poets_lex.specs.Texts.{sign_text}
use Rattle.poets_lex.specs.Lexes.{IsLongestSign, IsLongest, Piece, Reads}
use Rattle.poets_lex.proofs.OnePiece.{one-piece, no-piece-at-end}
use Rattle.poets_lex.proofs.Readings.{Extends-reading}
use Rattle.poets_reread.specs.Laws.{BooksAreNumberedFirst}

-- ---- signs

sign_short : (s : Sign) → length (sign_text s) ≤ 2
sign_short S.Semicolon = omega arith
sign_short s = omega arith

sign_some : (s : Sign) → 1 ≤ length (sign_text s)
sign_some S.Semicolon = omega arith
sign_some s = omega arith

no_line_in : (s : Sign) → get_or (sign_text s) 1 0 ≡ 10 → ⊥
no_line_in S.Semicolon e = absurd (omega arith)
no_line_in s e = absurd (omega arith)

-- a front of a text is a front of what comes ahead of more, if it is no longer
front_fits : (front text more rest : List ℕ) → text ++ more ≡ front ++ rest → length front ≤ length text →
    (left : List ℕ) × (text ≡ front ++ left)
front_fits [] text more rest e le = (text, refl)
front_fits (x ∷ front) [] more rest e le = absurd (omega arith)
front_fits (x ∷ front) (y ∷ text) more rest e le =
    let first : y ≡ x = cc in
    let behind : text ++ more ≡ front ++ rest = cc in
    let left = front_fits front text more rest behind (omega (arith, le)) in
    (left.0, ap (λ (t : List ℕ). y ∷ t) left.1 ∙ ap (λ (z : ℕ). z ∷ (front ++ left.0)) first)

-- ---- a line end behind

module _ (rest : List ℕ) where
  begins_more : (passes : ℕ → Bool) → passes 10 ≡ false → (text : List ℕ) → BeginsWithout passes text →
      BeginsWithout passes (text ++ 10 ∷ rest)
  begins_more passes line [] h = line
  begins_more passes line (byte ∷ text) h = h

  sign_more : (sign : Sign) (text : List ℕ) → IsLongestSign sign (sign_text sign ++ text) →
      IsLongestSign sign (sign_text sign ++ (text ++ 10 ∷ rest))
  sign_more sign text h other b =
      let whole : List ℕ = sign_text sign ++ text in
      let e : whole ++ 10 ∷ rest ≡ sign_text other ++ b.0 = append_assoc (sign_text sign) text (10 ∷ rest) ∙ b.1 in
      elim (cases_lt (length whole) (length (sign_text other))) [
        | inl longer ↦ absurd (
            let one : length whole ≡ 1 =
            omega (arith, longer, sign_short other, sign_some sign, length-append (sign_text sign) text) in
            let seam : get_or (whole ++ 10 ∷ rest) (length whole) 0 ≡ 10 = get_or-append_seam whole 10 rest 0 in
            let there : get_or (sign_text other ++ b.0) 1 0 ≡ get_or (sign_text other) 1 0 =
            get_or_append_left (sign_text other) b.0 0 1 (omega (arith, longer, one)) in
            let at : get_or (sign_text other) 1 0 ≡ 10 =
            sym there ∙ ap (λ (t : List ℕ). get_or t 1 0) (sym e)
            ∙ ap (λ (n : ℕ). get_or (whole ++ 10 ∷ rest) n 0) (sym one) ∙ seam in
            no_line_in other at)
        | inr fits ↦ h other (front_fits (sign_text other) whole (10 ∷ rest) b.0 e fits)
      ]

  longest_more : (what : Tok) (text : List ℕ) → IsLongest what text → IsLongest what (text ++ 10 ∷ rest)
  longest_more (K.Word w) text h = begins_more is_in_name refl text h
  longest_more (K.Name x) text h = begins_more is_in_name refl text h
  longest_more (K.Number n) text h = begins_more is_ascii_digit refl text h
  longest_more (K.Day d) text h = tt
  longest_more (K.Sign s) text h = sign_more s text h

  piece_more : {before after : Table} {place : ℕ} {bytes text : List ℕ} {here : List Token} →
      Piece before place bytes text here after → Piece before place bytes (text ++ 10 ∷ rest) here after
  piece_more (Piece.Blank byte h) = Piece.Blank byte h
  piece_more {text = text} (Piece.Comment bytes h l) = Piece.Comment bytes h (begins_more is_in_line refl text l)
  piece_more {text = text} (Piece.Lexeme token is) = Piece.Lexeme token (record {
    text = is.text;
    longest = longest_more token.what text is.longest;
    from = is.from;
    to = is.to;
    table = is.table;
  })

  reads_more : {before after : Table} {text left : List ℕ} {place : ℕ} {tokens : List Token} →
      Reads before text place tokens after left → Reads before (text ++ 10 ∷ rest) place tokens after (left ++ 10 ∷ rest)
  reads_more Reads.Nothing = Reads.Nothing
  reads_more (Reads.Next {before = before} {after = after} {bytes = bytes} {text = text} {rest = left} {place = place} {here = here} {tokens = tokens} first reads) =
      subst (λ (t : List ℕ). Reads before t place (here ++ tokens) after (left ++ 10 ∷ rest))
      (sym (append_assoc bytes text (10 ∷ rest))) (Reads.Next (piece_more first) (reads_more reads))

-- ---- two readings of one text

-- how the rest of a text is read
record IsReadOn (before : Table) (text : List ℕ) (after : Table) : Type 0 where
  place : ℕ
  tokens : List Token
  reads : Reads before text place tokens after []

-- where one reading ends, the other goes on
goes_on : {before a b : Table} {place : ℕ} {text other left : List ℕ} {tokens others : List Token} →
    Reads before text place tokens a left → Reads before other place others b [] → text ≡ other → IsReadOn a left b
goes_on {b = b} {others = others} (Reads.Nothing {table = table} {place = place}) reads e =
    record { place = place; tokens = others; reads = subst (λ (t : List ℕ). Reads table t place others b []) (sym e) reads }
goes_on (Reads.Next first reads) Reads.Nothing e = absurd (no-piece-at-end first e)
goes_on (Reads.Next {bytes = x} {text = t} {place = place} first reads) (Reads.Next {between = between} {after = end} {bytes = y} {text = u} {tokens = others} second follows) e =
    let one = one-piece first second e in
    let behind : t ≡ u = append_cancel_left x t u (e ∙ ap (λ z. z ++ u) (sym one.0)) in
    let there : Reads between u (place + length x) others end [] =
    subst (λ (z : List ℕ). Reads between u (place + length z) others end []) (sym one.0) follows in
    goes_on reads (subst (λ w. Reads w u (place + length x) others end []) (sym one.2) there) behind

pub books_first : BooksAreNumberedFirst
books_first book rest own names declared statements read whole =
    let front = reads_more rest read.lexed in
    Extends-reading (goes_on front whole.lexed refl).reads
