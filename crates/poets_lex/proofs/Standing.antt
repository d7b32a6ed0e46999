-- The tokens of a reading stand one after the other, each where its bytes are.
use Rattle.std.proofs.Common.{◌≡◌, ℕ, ◌+◌, ◌-◌, ◌<◌, ◌≤◌, List, [], ◌∷◌, ◌++◌, length, take, drop, slice_range, refl, sym, ap, ◌∙◌, arith, append_assoc, length-append}
use Rattle.std.specs.Str.{bytes_eq}
use Rattle.std.proofs.lemmas.List.{take_at, drop_at}
use Rattle.poets_lex.specs.declared.token.Tok.{Tok}
use Rattle.poets_lex.specs.declared.token.Tok.TheVariants as K
use Rattle.poets_lex.specs.declared.token.Token.{Token}
use Rattle.poets_lex.specs.Table.{Table, Extends, place_of}
use Rattle.poets_lex.specs.Lexes.{IsTextOf, Piece, Reads}
use Rattle.poets_lex.specs.Laws.{Stand}
use Rattle.poets_lex.proofs.Found.{position-before}
use Rattle.poets_lex.proofs.FirstBytes.{BeginsClass, class_of_token, token-class}
use Rattle.poets_lex.proofs.Readings.{Extends-reading}

-- more names change no token's bytes
text-kept : (what : Tok) (bytes : List ℕ) (old new : Table) → Extends old new → IsTextOf old what bytes → IsTextOf new what bytes
text-kept (K.Name name) bytes old new more is =
    (is.0, ap (place_of bytes) more.1 ∙ position-before (bytes_eq bytes) old more.0 name.id is.1)
text-kept (K.Word _) bytes old new more is = is
text-kept (K.Number _) bytes old new more is = is
text-kept (K.Day _) bytes old new more is = is
text-kept (K.Sign _) bytes old new more is = is

class-some : (class : ℕ) (bytes : List ℕ) → BeginsClass class bytes → 0 < length bytes
class-some class [] h = absurd h
class-some class (byte ∷ bytes) h = omega arith

Stand-lower : (table : Table) (text : List ℕ) (low high : ℕ) (tokens : List Token) → low ≤ high → Stand table text high tokens → Stand table text low tokens
Stand-lower table text low high [] le h = tt
Stand-lower table text low high (token ∷ tokens) le h = (omega (arith, h.0), h.1, h.2, h.3, h.4)

range-at : (whole front bytes rest : List ℕ) (from to : ℕ) → whole ≡ front ++ (bytes ++ rest) → from ≡ length front → to ≡ length front + length bytes → slice_range whole from to ≡ bytes
range-at whole front bytes rest from to cut at end =
    let behind : drop from whole ≡ bytes ++ rest = ap (drop from) cut ∙ drop_at front (bytes ++ rest) from (sym at) in
    let count : to - from ≡ length bytes = omega arith in
    ap (λ n. take n (drop from whole)) count ∙ ap (take (length bytes)) behind ∙ take_at bytes rest (length bytes) refl

pub standing : {before after : Table} {text rest : List ℕ} {place : ℕ} {tokens : List Token} → Reads before text place tokens after rest → (whole front : List ℕ) → whole ≡ front ++ text → length front ≡ place → Stand after whole place tokens
standing Reads.Nothing whole front cut at = tt
standing (Reads.Next {after = after} {text = text} {place = place} {tokens = tokens} (Piece.Blank byte blank) reads) whole front cut at =
    let behind = standing reads whole (front ++ byte ∷ []) (cut ∙ sym (append_assoc front (byte ∷ []) text)) (length-append front (byte ∷ []) ∙ ap (λ n. n + 1) at) in
    Stand-lower after whole place (place + 1) tokens (omega arith) behind
standing (Reads.Next {after = after} {text = text} {place = place} {tokens = tokens} (Piece.Comment bytes line ends) reads) whole front cut at =
    let behind = standing reads whole (front ++ 35 ∷ bytes) (cut ∙ sym (append_assoc front (35 ∷ bytes) text)) (length-append front (35 ∷ bytes) ∙ ap (λ n. n + length (35 ∷ bytes)) at) in
    Stand-lower after whole place (place + length (35 ∷ bytes)) tokens (omega arith) behind
standing (Reads.Next {between = between} {after = after} {bytes = bytes} {text = text} {place = place} {tokens = tokens} (Piece.Lexeme token is) reads) whole front cut at =
    let behind = standing reads whole (front ++ bytes) (cut ∙ sym (append_assoc front bytes text)) (length-append front bytes ∙ ap (λ n. n + length bytes) at) in
    let some = class-some (class_of_token token.what) bytes (token-class between token.what bytes is.text) in
    let here = range-at whole front bytes text token.from token.to cut (is.from ∙ sym at) (is.to ∙ ap (λ n. n + length bytes) (sym at)) in
    let lengths = ap length cut in
    let more = text-kept token.what bytes between after (Extends-reading reads) is.text in (
      omega (arith, is.from),
      omega (arith, is.from, is.to),
      omega (arith, is.to, length-append front (bytes ++ text), length-append bytes text),
      rw here more,
      rw is.to behind,
    )
