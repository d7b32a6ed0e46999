-- Readings of a text, piece by piece.
use Rattle.std.proofs.Common.{◌≡◌, ℕ, ◌+◌, ◌-◌, take, drop, ◌<◌, ◌≤◌, Bool, true, false, List, [], ◌∷◌, ◌++◌, length, refl, sym, ap, subst, ◌∙◌, arith, cond, append_assoc, length-append}
use Rattle.std.specs.List.{list_any}
use Rattle.std.specs.Str.{bytes_eq}
use Rattle.std.proofs.lemmas.List.{append-nil, take_rest, drop_at}
use Rattle.poets_lex.specs.declared.token.Tok.{Tok}
use Rattle.poets_lex.specs.declared.token.Tok.TheVariants as K
use Rattle.poets_lex.specs.declared.token.Token.{Token}
use Rattle.poets_lex.specs.Table.{Table, HasNameShape, Extends}
use Rattle.poets_lex.specs.Lexes.{IsTextOf, table_with, Piece, Reads}
use Rattle.poets_lex.specs.code.Front.{TakesPiece}

-- one piece more
pub Reads-push : {before between after : Table} {text middle bytes rest : List ℕ} {place there : ℕ} {tokens here : List Token} → Reads before text place tokens between middle → there + length middle ≡ place + length text → middle ≡ bytes ++ rest → Piece between there bytes rest here after → Reads before text place (tokens ++ here) after rest
Reads-push {between = between} {after = after} {bytes = bytes} {rest = rest} {place = place} {there = there} {here = here} Reads.Nothing e cut piece =
    let same : there ≡ place = omega arith in
    let first = subst (λ (p : ℕ). Piece between p bytes rest here after) same piece in
    let read : Reads between (bytes ++ rest) place (here ++ []) after rest = Reads.Next first Reads.Nothing in
    rw (cut, ← append-nil here) read
Reads-push (Reads.Next {bytes = front} {text = behind} first reads) e cut piece =
    rw append_assoc (Reads.Next first (Reads-push reads (omega (arith, length-append front behind)) cut piece))

-- the piece that begins the rest is taken
pub Reads-taken : {before between after : Table} {text middle : List ℕ} {tokens new : List Token} {place size : ℕ} → Reads before text 0 tokens between middle → place + length middle ≡ length text → TakesPiece between place middle tokens size new after → Reads before text 0 new after (take (length middle - size) (drop size middle)) × (place + size + length (take (length middle - size) (drop size middle)) ≡ length text)
Reads-taken {middle = middle} {place = place} {size = size} read here taken =
    let behind : take (length middle - size) (drop size middle) ≡ taken.rest = take_rest middle size ∙ ap (drop size) taken.cut ∙ drop_at taken.bytes taken.rest size (sym taken.sized) in
    let lengths : length middle ≡ size + length taken.rest = omega (arith, ap length taken.cut, length-append taken.bytes taken.rest, taken.sized) in (
      rw (behind, taken.added) (Reads-push read (omega arith) taken.cut taken.piece),
      omega (arith, ap length behind),
    )

Extends-same : (table : Table) → Extends table table
Extends-same table = ([], sym (append-nil table))

pub Extends-then : (a b c : Table) → Extends a b → Extends b c → Extends a c
Extends-then a b c h k = (h.0 ++ k.0, k.1 ∙ ap (λ t. t ++ k.0) h.1 ∙ append_assoc a h.0 k.0)

-- a text that is put in a table stands after the others, if it is new
Extends-with : (text : List ℕ) (table : Table) (b : Bool) → Extends table (cond b table (table ++ text ∷ []))
Extends-with text table true = Extends-same table
Extends-with text table false = (text ∷ [], refl)

Extends-token : (what : Tok) (bytes : List ℕ) (before : Table) → Extends before (table_with what bytes before)
Extends-token (K.Name _) bytes before = Extends-with bytes before (list_any (bytes_eq bytes) before)
Extends-token (K.Word _) bytes before = Extends-same before
Extends-token (K.Number _) bytes before = Extends-same before
Extends-token (K.Day _) bytes before = Extends-same before
Extends-token (K.Sign _) bytes before = Extends-same before

pub Extends-piece : {before after : Table} {place : ℕ} {bytes rest : List ℕ} {here : List Token} → Piece before place bytes rest here after → Extends before after
Extends-piece (Piece.Blank {table = table} byte blank) = Extends-same table
Extends-piece (Piece.Comment {table = table} bytes line ends) = Extends-same table
Extends-piece (Piece.Lexeme {before = before} {bytes = bytes} token is) = rw is.table (Extends-token token.what bytes before)

-- the table after a reading has the texts of the table before
pub Extends-reading : {before after : Table} {text rest : List ℕ} {place : ℕ} {tokens : List Token} → Reads before text place tokens after rest → Extends before after
Extends-reading (Reads.Nothing {table = table}) = Extends-same table
Extends-reading (Reads.Next {before = before} {between = between} {after = after} first reads) =
    Extends-then before between after (Extends-piece first) (Extends-reading reads)

name-some : (bytes : List ℕ) → HasNameShape bytes → 0 < length bytes
name-some [] h = absurd h
name-some (byte ∷ bytes) h = omega arith

with-length : (text : List ℕ) (table : Table) (b : Bool) → length (cond b table (table ++ text ∷ [])) ≤ length table + 1
with-length text table true = omega arith
with-length text table false = omega (arith, length-append table (text ∷ []))

token-length : (what : Tok) (bytes : List ℕ) (before after : Table) → IsTextOf after what bytes → length (table_with what bytes before) ≤ length before + length bytes
token-length (K.Name _) bytes before after is =
    omega (arith, name-some bytes is.0.shape, with-length bytes before (list_any (bytes_eq bytes) before))
token-length (K.Word _) bytes before after is = omega arith
token-length (K.Number _) bytes before after is = omega arith
token-length (K.Day _) bytes before after is = omega arith
token-length (K.Sign _) bytes before after is = omega arith

piece-length : {before after : Table} {place : ℕ} {bytes rest : List ℕ} {here : List Token} → Piece before place bytes rest here after → length after ≤ length before + length bytes
piece-length (Piece.Blank byte blank) = omega arith
piece-length (Piece.Comment bytes line ends) = omega arith
piece-length (Piece.Lexeme {before = before} {after = after} {bytes = bytes} token is) =
    omega (arith, ap length is.table, token-length token.what bytes before after is.text)

-- a reading makes the table longer by no more names than bytes
pub reading-length : {before after : Table} {text rest : List ℕ} {place : ℕ} {tokens : List Token} → Reads before text place tokens after rest → length after + length rest ≤ length before + length text
reading-length Reads.Nothing = omega arith
reading-length (Reads.Next {bytes = bytes} {text = text} first reads) =
    omega (arith, piece-length first, reading-length reads, length-append bytes text)
