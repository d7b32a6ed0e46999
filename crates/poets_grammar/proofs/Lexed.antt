-- The tokens of a text have no number below 0.
use Rattle.std.proofs.Common.{ℕ, List, [], rules}
use Rattle.std.proofs.lemmas.List.Elements.{All-nil, All-cons, All-append}
use Rattle.poets_lex.specs.declared.token.Tok.{Tok}
use Rattle.poets_lex.specs.declared.token.Tok.TheVariants as K
use Rattle.poets_lex.specs.declared.token.Token.{Token}
use Rattle.poets_lex.specs.Table.{Table}
use Rattle.poets_lex.specs.Lexes.{IsTextOf, Piece, Reads}
use Rattle.poets_grammar.specs.Tokens.{IsNatural, AreNatural}

token_natural : (table : Table) (t : Tok) (bytes : List ℕ) → IsTextOf table t bytes → IsNatural t
token_natural table (K.Number n) bytes h = rw h.2 (search rules)
token_natural table _ bytes h = tt

piece_natural : {before after : Table} {place : ℕ} {bytes rest : List ℕ} {here : List Token} → Piece before place bytes rest here after → AreNatural here
piece_natural (Piece.Blank byte h) = All-nil (λ t. IsNatural t.what)
piece_natural (Piece.Comment bytes h l) = All-nil (λ t. IsNatural t.what)
piece_natural {after = after} {bytes = bytes} (Piece.Lexeme token h) = All-cons (λ t. IsNatural t.what) token [] (token_natural after token.what bytes h.text) (All-nil (λ t. IsNatural t.what))

pub read_natural : {before after : Table} {text rest : List ℕ} {place : ℕ} {tokens : List Token} → Reads before text place tokens after rest → AreNatural tokens
read_natural Reads.Nothing = All-nil (λ t. IsNatural t.what)
read_natural (Reads.Next {here = here} {tokens = tokens} p r) = All-append (λ t. IsNatural t.what) here tokens (piece_natural p) (read_natural r)
