-- Each command of a session was read from tokens, and the tokens of all of them are no more than its text has bytes.
use Rattle.std.proofs.Common.{◌≡◌, ℕ, suc, ◌+◌, ◌*◌, ◌≤◌, Bool, true, false, List, [], ◌∷◌, All, length, refl, arith}
use Rattle.std.specs.Prelude.{if◌then◌else◌, sum_by}
use Rattle.std.specs.List.{AllZip}
use Rattle.std.proofs.lemmas.List.{length-map}
use Rattle.std.proofs.lemmas.List.Elements.{All-nil, All-cons, All-head, All-tail}
use Rattle.std.proofs.lemmas.List.Sums.{sum_by-cons}
use Rattle.poets_lex.specs.declared.token.Tok.{Tok}
use Rattle.poets_lex.specs.declared.token.Token.{Token}
use Rattle.poets_lex.specs.Table.{Table, IsTable}
use Rattle.poets_lex.specs.Laws.{Stand}
use Rattle.poets_lex.proofs.Standing.{standing}
use Rattle.poets_grammar.specs.Tokens.{toks}
use Rattle.poets_grammar.specs.TooDeep.{IsTooDeep}
use Rattle.poets_grammar.specs.Statements.{IsCommand, IsStatement}
use Rattle.poets_command.specs.Plain.{Command}
use Rattle.poets_command.specs.Said as said
use Rattle.poets_print.specs.Lines.{command_text}
use Rattle.poets_print.proofs.WritingCommands.{number_written}
use Rattle.poets_printed.proofs.ShortCommands.{short_command}
use Rattle.poets_session.specs.Pieces.{Piece, is_end, with_token, pieces_of}
use Rattle.poets_session.specs.Sessions.{Text, IsStatementPiece, IsReadAs, commands_ahead, scripts_of}
use Rattle.poets_session.specs.Written.{IsWritten}
use Rattle.poets_session.proofs.LawsFitting.{read_table, read_written}

-- ---- how many tokens

-- tokens that stand in a text are no more than its bytes
tokens_within : (table : Table) (text : Text) (place : ℕ) (tokens : List Token) → place ≤ length text → Stand table text place tokens → place + length tokens ≤ length text
tokens_within table text place [] low h = omega arith
tokens_within table text place (t ∷ tokens) low h =
    let rest = tokens_within table text t.to tokens h.2 h.4 in
    omega (arith, h.0, h.1, rest)

-- the tokens of a text of statements are no more than its bytes
read_within : (text : Text) (names : Table) (statements : List said.Statement) → (read : IsReadAs text names statements) → length (toks read.tokens) ≤ length text
read_within text names statements read =
    let stand = standing read.lexed text [] refl refl in
    let behind : 0 + length read.tokens ≤ length text = tokens_within names text 0 read.tokens (omega arith) stand in
    omega (arith, behind, length-map read.tokens (λ (t : Token). t.what))

-- how many tokens the pieces have together
abbrev token_count : List Piece → ℕ
token_count [] = 0
token_count (p ∷ pieces) = length p.tokens + token_count pieces

with_token_count : (t : Tok) (pieces : List Piece) → token_count (with_token t pieces) ≡ suc (token_count pieces)
with_token_count t [] = omega arith
with_token_count t (p ∷ pieces) = omega arith

pieces_within : (ts : List Tok) → token_count (pieces_of ts) ≤ length ts
pieces_within [] = omega arith
pieces_within (t ∷ ts) = by_end (is_end t) (pieces_within ts)
  where
    by_end : (b : Bool) → token_count (pieces_of ts) ≤ length ts →
        token_count (if b then record { tokens = []; ended = true } ∷ pieces_of ts else with_token t (pieces_of ts)) ≤ suc (length ts)
    by_end true h = omega (arith, h)
    by_end false h = omega (arith, h, with_token_count t (pieces_of ts))

-- ---- what was read from them

-- the command was read from tokens, which are not too deep
pub record IsRead (command : Command) : Type 0 where
  pub tokens : List Tok
  pub read : IsCommand tokens command
  pub shallow : ¬ (IsTooDeep tokens)

-- the statement's command was, if the statement is a command without a number
abbrev HasSource : said.Statement → Type 0
HasSource (said.Command command) = IsRead command
HasSource s = Unit {0}

statement_source : {ts : List Tok} {s : said.Statement} → IsStatement ts s → ¬ (IsTooDeep ts) → HasSource s
statement_source {ts = ts} (IsStatement.Command r) shallow = record { tokens = ts; read = r; shallow = shallow }
statement_source _ shallow = tt

statements_source : (pieces : List Piece) (statements : List said.Statement) → AllZip IsStatementPiece pieces statements → All HasSource statements
statements_source [] [] h = All-nil HasSource
statements_source [] (s ∷ statements) h = absurd h
statements_source (p ∷ pieces) [] h = absurd h
statements_source (p ∷ pieces) (s ∷ statements) h =
    All-cons HasSource s statements (statement_source h.0.statement h.0.shallow) (statements_source pieces statements h.1)

ahead_source : (statements : List said.Statement) → All HasSource statements → All IsRead (commands_ahead statements)
ahead_source [] h = All-nil IsRead
ahead_source (said.Clerk ∷ statements) h = All-nil IsRead
ahead_source (said.Command c ∷ statements) h =
    All-cons IsRead c (commands_ahead statements) (All-head HasSource (said.Command c) statements h)
    (ahead_source statements (All-tail HasSource (said.Command c) statements h))
ahead_source (s ∷ statements) h = ahead_source statements (All-tail HasSource s statements h)

scripts_source : (statements : List said.Statement) → All HasSource statements → All (All IsRead) (scripts_of statements)
scripts_source [] h = All-nil (All IsRead)
scripts_source (said.Clerk ∷ statements) h =
    let rest = All-tail HasSource said.Clerk statements h in
    All-cons (All IsRead) (commands_ahead statements) (scripts_of statements) (ahead_source statements rest) (scripts_source statements rest)
scripts_source (s ∷ statements) h = scripts_source statements (All-tail HasSource s statements h)

pub session_source : (text : Text) (names : Table) (statements : List said.Statement) → IsReadAs text names statements → All (All IsRead) (scripts_of statements)
session_source text names statements read =
    scripts_source statements (statements_source (pieces_of (toks read.tokens)) statements read.said)

-- ---- sums over the commands

module _ (weight : Command → ℕ) where
  -- what the statement's command weighs, if the statement is a command without a number
  abbrev statement_weight : said.Statement → ℕ
  statement_weight (said.Command command) = weight command
  statement_weight s = 0

  abbrev pub weight_of : List said.Statement → ℕ
  weight_of [] = 0
  weight_of (s ∷ statements) = statement_weight s + weight_of statements

  -- the commands ahead of the first `clerk` and those of the scripts are all of them
  ahead_weight :
      (statements : List said.Statement) → sum_by weight (commands_ahead statements) + sum_by (sum_by weight) (scripts_of statements) ≡ weight_of statements
  ahead_weight [] = omega arith
  ahead_weight (said.Clerk ∷ statements) =
      omega (arith, ahead_weight statements, sum_by-cons (sum_by weight) (commands_ahead statements) (scripts_of statements))
  ahead_weight (said.Command c ∷ statements) = omega (arith, ahead_weight statements, sum_by-cons weight c (commands_ahead statements))
  ahead_weight (s ∷ statements) = omega (arith, ahead_weight statements)

  pub scripts_weight : (statements : List said.Statement) → sum_by (sum_by weight) (scripts_of statements) ≤ weight_of statements
  scripts_weight statements = omega (arith, ahead_weight statements)

-- ---- how long the commands print

-- the bytes of the printed command
abbrev pub printed_length : Table → Command → ℕ
printed_length names command = length (command_text names command)

module _ (names : Table) (all : IsTable names) where
  statement_printed : {ts : List Tok} {s : said.Statement} → IsStatement ts s → IsWritten names s → statement_weight (printed_length names) s ≤ 80 * length ts
  statement_printed (IsStatement.Command {command} r) h = short_command names all r h.1 (number_written names command h.0)
  statement_printed _ h = omega arith

  statements_printed :
      (pieces : List Piece) (statements : List said.Statement) → AllZip IsStatementPiece pieces statements → All (IsWritten names) statements →
      weight_of (printed_length names) statements ≤ 80 * token_count pieces
  statements_printed [] [] said h = omega arith
  statements_printed [] (s ∷ statements) said h = absurd said
  statements_printed (p ∷ pieces) [] said h = absurd said
  statements_printed (p ∷ pieces) (s ∷ statements) said h =
      let first = statement_printed said.0.statement (All-head (IsWritten names) s statements h) in
      omega (arith, first, statements_printed pieces statements said.1 (All-tail (IsWritten names) s statements h))

-- the commands of a session print as at most 80 bytes together for each byte of its text
pub session_printed : (text : Text) (names : Table) (statements : List said.Statement) → IsReadAs text names statements →
    sum_by (sum_by (printed_length names)) (scripts_of statements) ≤ 80 * length text
session_printed text names statements read =
    let written = read_written text names statements read in
    let ts : List Tok = toks read.tokens in
    let printed = statements_printed names (read_table text names statements read) (pieces_of ts) statements read.said written in
    omega (arith, scripts_weight (printed_length names) statements, printed, pieces_within ts, read_within text names statements read)
