-- A text that is cut into tokens is cut so from each table of names; the tokens are the same but for the places of names.
use Rattle.std.proofs.Common.{◌≡◌, ℕ, zero, suc, ◌+◌, ◌<◌, List, [], ◌∷◌, ◌++◌, length, map, fold, take, Bool, true, false, Option, Some, None, refl, sym, ap, subst, ◌∙◌, cond}
use Rattle.std.specs.Prelude.{if◌then◌else◌}
use Rattle.std.specs.List.{list_any}
use Rattle.std.specs.Str.{bytes_eq}
use Rattle.std.proofs.lemmas.Slice.Eq.{bytes_eq-Decides}
use Rattle.std.proofs.lemmas.List.{append-nil}
use Rattle.poets_lex.specs.declared.token.Tok.{Tok}
use Rattle.poets_lex.specs.declared.token.Tok.TheVariants as K
use Rattle.poets_lex.specs.declared.token.Token.{Token}
use Rattle.poets_lex.specs.Table.{Table, IsTable, Extends, place_of, with_text}
use Rattle.poets_lex.specs.Lexes.{IsTextOf, IsLongest, table_with, Piece, Reads}
use Rattle.poets_lex.proofs.Found.{known, unknown, position-push, position-before, IsTable-push}
use Rattle.poets_lex.proofs.Readings.{Extends-reading, Extends-then}
use Rattle.poets_grammar.specs.Tokens.{toks}
use Rattle.poets_grammar.specs.TooDeep.{open_behind, is_operator, operators, most_operators, IsDeeper}

-- ---- tables

-- a text that is put in a table stands there
pub place_with : (bytes : List ℕ) (table : Table) → (i : ℕ) × (place_of bytes (with_text bytes table) ≡ Some i)
place_with bytes table = by_place (place_of bytes table) refl
  where
    by_place : (found : Option ℕ) → place_of bytes table ≡ found → (i : ℕ) × (place_of bytes (with_text bytes table) ≡ Some i)
    by_place (Some i) e = rw (known (bytes_eq bytes) table i e) (i, e)
    by_place None e =
        let new = unknown (bytes_eq bytes) table e in
        rw new (length table, position-push (bytes_eq bytes) table bytes new ((bytes_eq-Decides bytes bytes).1 refl))

-- the others keep their places
pub extends_with : (bytes : List ℕ) (table : Table) → Extends table (with_text bytes table)
extends_with bytes table = by_test (list_any (bytes_eq bytes) table)
  where
    by_test : (b : Bool) → Extends table (if b then table else table ++ bytes ∷ [])
    by_test true = ([], sym (append-nil table))
    by_test false = (bytes ∷ [], refl)

-- ---- tokens

-- the token, whatever its name
abbrev pub shape : Tok → Tok
shape (K.Name x) = K.Name (record { id = 0 })
shape t = t

abbrev pub shapes : List Token → List Tok
shapes tokens = map (λ t. shape t.what) tokens

shapes_append : (a b : List Token) → shapes (a ++ b) ≡ shapes a ++ shapes b
shapes_append [] b = refl
shapes_append (t ∷ a) b = ap (λ (ts : List Tok). shape t.what ∷ ts) (shapes_append a b)

-- the bytes of a token are one of the same shape, from each table
record IsTokAt (table : Table) (bytes rest : List ℕ) (old : Tok) : Type 0 where
  now : Tok
  after : Table
  text : IsTextOf after now bytes
  longest : IsLongest now rest
  with_it : after ≡ table_with now bytes table
  alike : shape now ≡ shape old

tok_at : (what : Tok) (bytes rest : List ℕ) (after table : Table) → IsTextOf after what bytes → IsLongest what rest →
    IsTokAt table bytes rest what
tok_at (K.Name x) bytes rest after table is long =
    let at = place_with bytes table in
    record {
      now = K.Name (record { id = at.0 });
      after = with_text bytes table;
      text = (is.0, at.1);
      longest = long;
      with_it = refl;
      alike = refl;
    }
tok_at (K.Word w) bytes rest after table is long =
    record { now = K.Word w; after = table; text = is; longest = long; with_it = refl; alike = refl }
tok_at (K.Number n) bytes rest after table is long =
    record { now = K.Number n; after = table; text = is; longest = long; with_it = refl; alike = refl }
tok_at (K.Day d) bytes rest after table is long =
    record { now = K.Day d; after = table; text = is; longest = long; with_it = refl; alike = refl }
tok_at (K.Sign s) bytes rest after table is long =
    record { now = K.Sign s; after = table; text = is; longest = long; with_it = refl; alike = refl }

piece_at : {before after : Table} {place : ℕ} {bytes rest : List ℕ} {here : List Token} →
    Piece before place bytes rest here after → (table : Table) →
    (now : List Token) × (end : Table) × Piece table place bytes rest now end × (shapes now ≡ shapes here)
piece_at (Piece.Blank byte h) table = ([], table, Piece.Blank byte h, refl)
piece_at (Piece.Comment bytes h l) table = ([], table, Piece.Comment bytes h l, refl)
piece_at {after = after} {place = place} {bytes = bytes} {rest = rest} (Piece.Lexeme token is) table =
    let at = tok_at token.what bytes rest after table is.text is.longest in
    let now : Token = record { what = at.now; from = place; to = place + length bytes } in (
      now ∷ [],
      at.after,
      Piece.Lexeme now (record { text = at.text; longest = at.longest; from = refl; to = refl; table = at.with_it }),
      ap (λ (t : Tok). t ∷ []) at.alike,
    )

-- how a text is read from another table: tokens of the same shapes
pub record IsRelexed (table : Table) (text : List ℕ) (place : ℕ) (tokens : List Token) (rest : List ℕ) : Type 0 where
  pub now : List Token
  pub after : Table
  pub reads : Reads table text place now after rest
  pub alike : shapes now ≡ shapes tokens

pub relexed : {before after : Table} {text rest : List ℕ} {place : ℕ} {tokens : List Token} →
    Reads before text place tokens after rest → (table : Table) → IsRelexed table text place tokens rest
relexed Reads.Nothing table = record { now = []; after = table; reads = Reads.Nothing; alike = refl }
relexed (Reads.Next {here = here} {tokens = tokens} first reads) table =
    let p = piece_at first table in
    let r = relexed reads p.1 in
    record {
      now = p.0 ++ r.now;
      after = r.after;
      reads = Reads.Next p.2 r.reads;
      alike = shapes_append p.0 r.now ∙ ap (λ (ts : List Tok). ts ++ shapes r.now) p.3 ∙ ap (λ (ts : List Tok). shapes here ++ ts) r.alike
          ∙ sym (shapes_append here tokens);
    }

-- ---- depths

opened_kept : (n : ℕ) (t : Tok) → open_behind n (shape t) ≡ open_behind n t
opened_kept n (K.Name x) = refl
opened_kept n (K.Word w) = refl
opened_kept n (K.Number k) = refl
opened_kept n (K.Day d) = refl
opened_kept n (K.Sign s) = refl

operator_kept : (t : Tok) → is_operator (shape t) ≡ is_operator t
operator_kept (K.Name x) = refl
operator_kept (K.Word w) = refl
operator_kept (K.Number k) = refl
operator_kept (K.Day d) = refl
operator_kept (K.Sign s) = refl

open_kept : (n count : ℕ) (ts : List Token) →
    fold open_behind n (take count (toks ts)) ≡ fold open_behind n (take count (shapes ts))
open_kept n zero [] = refl
open_kept n (suc k) [] = refl
open_kept n zero (t ∷ ts) = refl
open_kept n (suc k) (t ∷ ts) =
    open_kept (open_behind n t.what) k ts
    ∙ ap (λ (m : ℕ). fold open_behind m (take k (shapes ts))) (sym (opened_kept n t.what))

operators_from : (n : ℕ) (ts : List Token) →
    fold (λ (a : ℕ) (t : Tok). a + cond (is_operator t) 1 0) n (toks ts)
    ≡ fold (λ (a : ℕ) (t : Tok). a + cond (is_operator t) 1 0) n (shapes ts)
operators_from n [] = refl
operators_from n (t ∷ ts) =
    operators_from (n + cond (is_operator t.what) 1 0) ts
    ∙ ap (λ (b : Bool). fold (λ (a : ℕ) (t : Tok). a + cond (is_operator t) 1 0) (n + cond b 1 0) (shapes ts))
    (sym (operator_kept t.what))

operators_kept : (ts : List Token) → operators (toks ts) ≡ operators (shapes ts)
operators_kept ts = operators_from 0 ts

-- tokens of the same shapes are as deep
pub deeper_kept : (most : ℕ) (a b : List Token) → shapes a ≡ shapes b → IsDeeper most (toks a) → IsDeeper most (toks b)
deeper_kept most a b e (IsDeeper.Nested count h) =
    let same = open_kept 0 count a ∙ ap (λ (ts : List Tok). fold open_behind 0 (take count ts)) e ∙ sym (open_kept 0 count b) in
    IsDeeper.Nested count (subst (λ (n : ℕ). most < n) same h)
deeper_kept most a b e (IsDeeper.Long h) =
    let same = operators_kept a ∙ ap operators e ∙ sym (operators_kept b) in
    IsDeeper.Long (subst (λ (n : ℕ). most_operators < n) same h)

-- ---- wider tables

-- more names change no token's bytes
text_kept : (what : Tok) (bytes : List ℕ) (old new : Table) → Extends old new → IsTextOf old what bytes → IsTextOf new what bytes
text_kept (K.Name name) bytes old new more is =
    (is.0, ap (place_of bytes) more.1 ∙ position-before (bytes_eq bytes) old more.0 name.id is.1)
text_kept (K.Word _) bytes old new more is = is
text_kept (K.Number _) bytes old new more is = is
text_kept (K.Day _) bytes old new more is = is
text_kept (K.Sign _) bytes old new more is = is

-- a token whose name the table has adds none
table_stays : (what : Tok) (bytes : List ℕ) (table : Table) → IsTextOf table what bytes → table ≡ table_with what bytes table
table_stays (K.Name name) bytes table is = rw (known (bytes_eq bytes) table name.id is.1) refl
table_stays (K.Word _) bytes table is = refl
table_stays (K.Number _) bytes table is = refl
table_stays (K.Day _) bytes table is = refl
table_stays (K.Sign _) bytes table is = refl

widened_piece : {before after : Table} {place : ℕ} {bytes rest : List ℕ} {here : List Token} →
    Piece before place bytes rest here after → (wide : Table) → Extends after wide → Piece wide place bytes rest here wide
widened_piece (Piece.Blank byte h) wide more = Piece.Blank byte h
widened_piece (Piece.Comment bytes h l) wide more = Piece.Comment bytes h l
widened_piece {after = after} {bytes = bytes} (Piece.Lexeme token is) wide more =
    let text = text_kept token.what bytes after wide more is.text in
    Piece.Lexeme token (record {
      text = text;
      longest = is.longest;
      from = is.from;
      to = is.to;
      table = table_stays token.what bytes wide text;
    })

-- a text is cut into the same tokens from a table that has the names already
pub widened : {before after : Table} {text rest : List ℕ} {place : ℕ} {tokens : List Token} →
    Reads before text place tokens after rest → (wide : Table) → Extends after wide → Reads wide text place tokens wide rest
widened Reads.Nothing wide more = Reads.Nothing
widened (Reads.Next {between = between} {after = after} first reads) wide more =
    Reads.Next (widened_piece first wide (Extends-then between after wide (Extends-reading reads) more)) (widened reads wide more)

-- ---- good tables

token_table : (what : Tok) (bytes : List ℕ) (before after : Table) → IsTextOf after what bytes → IsTable before →
    IsTable (table_with what bytes before)
token_table (K.Name x) bytes before after is h = by_place (place_of bytes before) refl
  where
    by_place : (found : Option ℕ) → place_of bytes before ≡ found → IsTable (with_text bytes before)
    by_place (Some i) e = rw (known (bytes_eq bytes) before i e) h
    by_place None e = rw (unknown (bytes_eq bytes) before e) (IsTable-push before bytes h is.0 e)
token_table (K.Word _) bytes before after is h = h
token_table (K.Number _) bytes before after is h = h
token_table (K.Day _) bytes before after is h = h
token_table (K.Sign _) bytes before after is h = h

pub reads_table : {before after : Table} {text rest : List ℕ} {place : ℕ} {tokens : List Token} →
    Reads before text place tokens after rest → IsTable before → IsTable after
reads_table Reads.Nothing h = h
reads_table (Reads.Next (Piece.Blank byte blank) reads) h = reads_table reads h
reads_table (Reads.Next (Piece.Comment bytes line ends) reads) h = reads_table reads h
reads_table (Reads.Next {before = before} {between = between} {bytes = bytes} (Piece.Lexeme token is) reads) h =
    reads_table reads (subst IsTable (sym is.table) (token_table token.what bytes before between is.text h))
