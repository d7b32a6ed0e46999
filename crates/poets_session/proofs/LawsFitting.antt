-- What a text says is written with its names: the grammar takes them from its tokens.
use Rattle.std.proofs.Common.{◌≡◌, ◌≢◌, ℕ, ◌<◌, ◌^◌, Bool, true, false, List, [], ◌∷◌, Option, Some, None, All, IsTrue, pos, neg_ℤ, ℤ, refl, sym, subst, rules}
use Rattle.std.specs.Prelude.{IfSome, if◌then◌else◌}
use Rattle.std.specs.List.{AllZip}
use Rattle.std.specs.Str.{bytes_eq}
use Rattle.std.proofs.lemmas.List.Elements.{All-nil, All-cons, All-head, All-tail, All-weaker}
use Rattle.std.proofs.lemmas.List.Quantifiers.{position-Some}
use Rattle.poets_value.specs.declared.value.Name.{Name}
use Rattle.poets_value.specs.Civil.{IsDayNumber}
use Rattle.poets_value.specs.Whole.{is_whole, is_day}
use Rattle.poets_value.proofs.Days.{range_of_text}
use Rattle.poets_expr.specs.Expression.{Expression}
use Rattle.poets_expr.specs.Whole.{IsWholeExpression}
use Rattle.poets_syntax.specs.declared.term.Binders.{Binders}
use Rattle.poets_syntax.specs.declared.term.Param.{Param}
use Rattle.poets_syntax.specs.Contract.{Contract}
use Rattle.poets_command.specs.Said.{Statement, Clerk, Command, Numbered}
use Rattle.poets_command.specs.Plain as plain
use Rattle.poets_lex.specs.declared.token.Tok.{Tok}
use Rattle.poets_lex.specs.declared.token.Tok.TheVariants as K
use Rattle.poets_lex.specs.declared.token.Token.{Token}
use Rattle.poets_lex.specs.Table.{Table, IsTable, place_of, with_text}
use Rattle.poets_lex.specs.Lexes as X
use Rattle.poets_lex.specs.Lexes.{IsTextOf, table_with, Reads}
use Rattle.poets_lex.specs.Laws.{Stand}
use Rattle.poets_lex.proofs.Found.{known, unknown, IsTable-push}
use Rattle.poets_lex.proofs.Standing.{standing}
use Rattle.poets_grammar.specs.Tokens.{toks}
use Rattle.poets_grammar.specs.Lists.{ReadsList, ReadsBracketed, ReadsName, ReadsNames}
use Rattle.poets_grammar.specs.Expressions.{Rule, ReadsExpression, ReadsArguments}
use Rattle.poets_grammar.specs.ContractGrammar.{ContractRule, ReadsBinders, ReadsContract}
use Rattle.poets_grammar.specs.Statements.{ReadsParameter, ReadsParameters, IsStep, IsCommand, IsStatement}
use Rattle.poets_print.specs.Laws.{IsListed, CanWrite}
use Rattle.poets_session.specs.Pieces.{Piece, is_end, with_token, pieces_of}
use Rattle.poets_session.specs.Sessions.{Text, IsStatementPiece, IsReadAs, commands_ahead, scripts_of, journal_of}
use Rattle.poets_session.specs.Written.{Fits, AllFit, IsWrittenExpression, IsWrittenContract, IsWrittenCommand, AreListedParameters, AreListedBinders, IsWritten}

-- ---- tokens

day_fits : (d : ℤ) → IsDayNumber d → IsTrue (is_day d)
day_fits d h = search (rules, h)

text_fits : (names : Table) (t : Tok) (bytes : List ℕ) → IsTextOf names t bytes → Fits names t
text_fits names (K.Name x) bytes is = (position-Some (bytes_eq bytes) names x.id [] is.1).0
text_fits names (K.Number n) bytes is = rw is.2 is.1
text_fits names (K.Day d) bytes is = day_fits d (range_of_text is.0 d is.2)
text_fits names _ bytes is = tt

pub stand_fit : (names : Table) (text : List ℕ) (place : ℕ) (tokens : List Token) → Stand names text place tokens → AllFit names (toks tokens)
stand_fit names text place [] h = tt
stand_fit names text place (t ∷ tokens) h = (text_fits names t.what _ h.3, stand_fit names text t.to tokens h.4)

-- ---- expressions

whole : (n : ℕ) → n < 2 ^ 63 → IsTrue (is_whole (pos n))
whole n h = search (rules, h)

negative : (n : ℕ) → n < 2 ^ 63 → IsTrue (is_whole (neg_ℤ (pos n)))
negative n h = search (rules, h)

both : {A B C D : Type 0} → A × B → C × D → (A × C) × (B × D)
both h k = ((h.0, k.0), (h.1, k.1))

expression_fits : (names : Table) {rule : Rule} {ts rest : List Tok} {e : Expression} → ReadsExpression rule ts e rest → AllFit names ts → IsWrittenExpression names e × AllFit names rest
expression_fits names (ReadsExpression.OneConjunction r) h = expression_fits names r h
expression_fits names (ReadsExpression.MoreConjunctions o r s) h =
    let a = expression_fits names r h in let b = expression_fits names s a.1.1 in (both a.0 b.0, b.1)
expression_fits names (ReadsExpression.OneNegation r) h = expression_fits names r h
expression_fits names (ReadsExpression.MoreNegations o r s) h =
    let a = expression_fits names r h in let b = expression_fits names s a.1.1 in (both a.0 b.0, b.1)
expression_fits names (ReadsExpression.Not r) h = expression_fits names r h.1
expression_fits names (ReadsExpression.OneComparison r) h = expression_fits names r h
expression_fits names (ReadsExpression.OneSum r) h = expression_fits names r h
expression_fits names (ReadsExpression.TwoSums o r s) h =
    let a = expression_fits names r h in let b = expression_fits names s a.1.1 in (both a.0 b.0, b.1)
expression_fits names (ReadsExpression.OneProduct r) h = expression_fits names r h
expression_fits names (ReadsExpression.MoreProducts o r s) h =
    let a = expression_fits names r h in let b = expression_fits names s a.1.1 in (both a.0 b.0, b.1)
expression_fits names (ReadsExpression.OnePrefixed r) h = expression_fits names r h
expression_fits names (ReadsExpression.MorePrefixed o r s) h =
    let a = expression_fits names r h in let b = expression_fits names s a.1.1 in (both a.0 b.0, b.1)
expression_fits names (ReadsExpression.NegativeNumber {n = n}) h = ((tt, negative n h.1.0), h.1.1)
expression_fits names (ReadsExpression.Minus e r) h = expression_fits names r h.1
expression_fits names (ReadsExpression.OnePrimary r) h = expression_fits names r h
expression_fits names (ReadsExpression.Number {n = n}) h = ((tt, whole n h.0), h.1)
expression_fits names ReadsExpression.ADay h = ((tt, h.0), h.1)
expression_fits names ReadsExpression.True h = ((tt, tt), h.1)
expression_fits names ReadsExpression.False h = ((tt, tt), h.1)
expression_fits names ReadsExpression.AName h = ((h.0, tt), h.1)
expression_fits names (ReadsExpression.Undefined e) h = ((tt, tt), h.1.1)
expression_fits names (ReadsExpression.Resource {n = n}) h = ((h.1.1.0, whole n h.1.0), h.1.1.1.1)
expression_fits names (ReadsExpression.NegativeResource {n = n}) h = ((h.1.1.1.0, negative n h.1.1.0), h.1.1.1.1.1)
expression_fits names (ReadsExpression.AmountOf r) h = let a = expression_fits names r h.1.1 in (a.0, a.1.1)
expression_fits names (ReadsExpression.KindOf r) h = let a = expression_fits names r h.1.1 in (a.0, a.1.1)
expression_fits names (ReadsExpression.Make r s) h =
    let a = expression_fits names r h.1.1 in let b = expression_fits names s a.1.1 in (both a.0 b.0, b.1.1)
expression_fits names (ReadsExpression.If r s t) h =
    let a = expression_fits names r h.1 in let b = expression_fits names s a.1.1 in let c = expression_fits names t b.1.1 in
    (((a.0.0, b.0.0, c.0.0), (a.0.1, b.0.1, c.0.1)), c.1.1)
expression_fits names (ReadsExpression.Brackets r) h = let a = expression_fits names r h.1 in (a.0, a.1.1)

-- ---- lists

list_fits :
    {A : Type 0} {Item : List Tok → A → List Tok → Type 0} (names : Table) (Is : A → Type 0) →
    ((ts rest : List Tok) (x : A) → Item ts x rest → AllFit names ts → Is x × AllFit names rest) →
    {ts rest : List Tok} {xs : List A} → ReadsList Item ts xs rest → AllFit names ts → All Is xs × AllFit names rest
list_fits names Is item (ReadsList.One {ts = ts} {rest = rest} {x = x} i) h =
    let a = item ts rest x i h in (All-cons Is x [] a.0 (All-nil Is), a.1)
list_fits names Is item (ReadsList.More {ts = ts} {x = x} {xs = xs} i l) h =
    let a = item ts _ x i h in let b = list_fits names Is item l a.1.1 in (All-cons Is x xs a.0 b.0, b.1)

bracketed_fits :
    {A : Type 0} {Item : List Tok → A → List Tok → Type 0} (names : Table) (Is : A → Type 0) →
    ((ts rest : List Tok) (x : A) → Item ts x rest → AllFit names ts → Is x × AllFit names rest) →
    {ts rest : List Tok} {xs : List A} → ReadsBracketed Item ts xs rest → AllFit names ts → All Is xs × AllFit names rest
bracketed_fits names Is item ReadsBracketed.Empty h = (All-nil Is, h.1.1)
bracketed_fits names Is item (ReadsBracketed.Full l) h = let a = list_fits names Is item l h.1 in (a.0, a.1.1)

arguments_fit : (names : Table) {ts rest : List Tok} {args : List Expression} → ReadsArguments ts args rest → AllFit names ts →
    All (CanWrite names) args × All IsWholeExpression args × AllFit names rest
arguments_fit names {args = args} r h =
    let Is : Expression → Type 0 = λ e. IsWrittenExpression names e in
    let a = bracketed_fits names Is (λ ts rest e s k. expression_fits names s k) r h in
    (All-weaker Is (CanWrite names) (λ e k. k.0) args a.0, All-weaker Is IsWholeExpression (λ e k. k.1) args a.0, a.1)

name_fits : (names : Table) (ts rest : List Tok) (x : Name) → ReadsName ts x rest → AllFit names ts → IsListed names x × AllFit names rest
name_fits names ts rest x ReadsName.AName h = (h.0, h.1)

names_fit : (names : Table) {ts rest : List Tok} {xs : List Name} → ReadsNames ts xs rest → AllFit names ts → All (IsListed names) xs × AllFit names rest
names_fit names r h = list_fits names (IsListed names) (name_fits names) r h

list_some : {A : Type 0} {Item : List Tok → A → List Tok → Type 0} {ts rest : List Tok} {xs : List A} → ReadsList Item ts xs rest → xs ≢ []
list_some (ReadsList.One i) e = absurd cc
list_some (ReadsList.More i l) e = absurd cc

-- ---- contracts

binders_fit : (names : Table) {ts rest : List Tok} {b : Binders} → ReadsBinders ts b rest → AllFit names ts → AreListedBinders names b × AllFit names rest
binders_fit names (ReadsBinders.Four {sender = s} {receiver = v} {what = r} {day = t}) h =
    let P = IsListed names in
    (All-cons P s (v ∷ r ∷ t ∷ []) h.0 (All-cons P v (r ∷ t ∷ []) h.1.1.0 (All-cons P r (t ∷ []) h.1.1.1.1.0 (All-cons P t [] h.1.1.1.1.1.1.0 (All-nil P)))), h.1.1.1.1.1.1.1)

contract_fits : (names : Table) {rule : ContractRule} {ts rest : List Tok} {c : Contract} → ReadsContract rule ts c rest → AllFit names ts → IsWrittenContract names c × AllFit names rest
contract_fits names (ReadsContract.OneParallel r) h = contract_fits names r h
contract_fits names (ReadsContract.MoreParallels r s) h =
    let a = contract_fits names r h in let b = contract_fits names s a.1.1 in (both a.0 b.0, b.1)
contract_fits names (ReadsContract.OneSequence r) h = contract_fits names r h
contract_fits names (ReadsContract.MoreSequences r s) h =
    let a = contract_fits names r h in let b = contract_fits names s a.1.1 in (both a.0 b.0, b.1)
contract_fits names (ReadsContract.OneSimple r) h = contract_fits names r h
contract_fits names (ReadsContract.MoreSimples r s) h =
    let a = contract_fits names r h in let b = contract_fits names s a.1.1 in (both a.0 b.0, b.1)
contract_fits names (ReadsContract.Transmit b r s) h =
    let bound = binders_fit names b h.1.1 in let p = expression_fits names r bound.1.1 in let c = contract_fits names s p.1.1.1 in
    (((bound.0, p.0.0, c.0.0), (p.0.1, c.0.1)), c.1)
contract_fits names ReadsContract.Success h = ((tt, tt), h.1)
contract_fits names ReadsContract.Failure h = ((tt, tt), h.1)
contract_fits names (ReadsContract.Application r) h = let a = arguments_fit names r h.1 in (((h.0, a.0), a.1), a.2)
contract_fits names (ReadsContract.Brackets r) h = let a = contract_fits names r h.1 in (a.0, a.1.1)

-- ---- statements

command_fits : (names : Table) {ts : List Tok} {command : plain.Command} → IsCommand ts command → AllFit names ts → IsWrittenCommand names command
command_fits names (IsCommand.Register c) h = let a = contract_fits names c h.1.1.1 in ((h.1.0, a.0.0), a.0.1)
command_fits names (IsCommand.Transmit {n = n}) h =
    ((h.1.0, h.1.1.0, h.1.1.1.0, search rules, h.1.1.1.1.1.0), (whole n h.1.1.1.1.0, h.1.1.1.1.1.1.0))
command_fits names IsCommand.Void h = ((h.1.0, h.1.1.0), tt)
command_fits names IsCommand.End h = (h.1.0, tt)
command_fits names IsCommand.Show h = (h.1.0, tt)
command_fits names (IsCommand.Tally r) h = let a = arguments_fit names r h.1.1 in ((h.1.0, a.0), a.1)
command_fits names (IsCommand.Portfolio r over) h =
    let a = arguments_fit names r h.1.1 in ((h.1.0, a.0, (names_fit names over a.2.1).0, list_some over), a.1)
command_fits names (IsCommand.Watch r) h = let a = arguments_fit names r h.1.1 in ((h.1.0, a.0), a.1)
command_fits names IsCommand.Read h = (h.1.0, tt)

parameter_fits : (names : Table) (ts rest : List Tok) (p : Param) → ReadsParameter ts p rest → AllFit names ts → IsListed names p.name × AllFit names rest
parameter_fits names ts rest p (ReadsParameter.Typed e) h = (h.0, h.1.1.1)

parameters_fit : (names : Table) {ts rest : List Tok} {params : List Param} → ReadsParameters ts params rest → AllFit names ts → AreListedParameters names params × AllFit names rest
parameters_fit names r h = bracketed_fits names (λ p. IsListed names p.name) (parameter_fits names) r h

step_fits : (names : Table) {ts : List Tok} {step : Expression} {key : Option Expression} → IsStep ts step key → AllFit names ts →
    IsWrittenExpression names step × IfSome key (IsWrittenExpression names)
step_fits names (IsStep.WithoutKey r) h = ((expression_fits names r h).0, tt)
step_fits names (IsStep.WithKey r s) h = let a = expression_fits names r h in (a.0, (expression_fits names s a.1.1).0)

pub statement_fits : (names : Table) {ts : List Tok} {s : Statement} → IsStatement ts s → AllFit names ts → IsWritten names s
statement_fits names (IsStatement.Agents r) h = (names_fit names r h.1).0
statement_fits names (IsStatement.Kinds r) h = (names_fit names r h.1).0
statement_fits names (IsStatement.Template r c) h =
    let p = parameters_fit names r h.1.1 in
    record { name = h.1.0; params = p.0; body = (contract_fits names c p.1.1).0 }
statement_fits names (IsStatement.Report r e start binders step) h =
    let p = parameters_fit names r h.1.1 in let s = expression_fits names start p.1.1.1.1.1.1.1 in
    let b = binders_fit names binders s.1.1.1 in let k = step_fits names step b.1.1.1 in
    record { name = h.1.0; params = p.0; start = s.0; carry = p.1.1.1.1.1.0; binders = b.0; step = k.0; key = k.1 }
statement_fits names IsStatement.Clerk h = tt
statement_fits names IsStatement.Journal h = tt
statement_fits names (IsStatement.Command c) h = command_fits names c h
statement_fits names (IsStatement.Numbered c) h = command_fits names c h.1.1

-- ---- pieces

abbrev EachFits : Table → List Piece → Type 0
EachFits names [] = Unit {0}
EachFits names (p ∷ pieces) = AllFit names p.tokens × EachFits names pieces

with_token_fits : (names : Table) (t : Tok) (pieces : List Piece) → Fits names t → EachFits names pieces → EachFits names (with_token t pieces)
with_token_fits names t [] h k = ((h, tt), tt)
with_token_fits names t (p ∷ pieces) h k = ((h, k.0), k.1)

pieces_fit : (names : Table) (ts : List Tok) → AllFit names ts → EachFits names (pieces_of ts)
pieces_fit names [] h = tt
pieces_fit names (t ∷ ts) h = by_end (is_end t) (pieces_fit names ts h.1)
  where
    by_end : (b : Bool) → EachFits names (pieces_of ts) → EachFits names (if b then record { tokens = []; ended = true } ∷ pieces_of ts else with_token t (pieces_of ts))
    by_end true k = (tt, k)
    by_end false k = with_token_fits names t (pieces_of ts) h.0 k

statements_fit : (names : Table) (pieces : List Piece) (statements : List Statement) → AllZip IsStatementPiece pieces statements → EachFits names pieces → All (IsWritten names) statements
statements_fit names [] [] said h = All-nil (IsWritten names)
statements_fit names [] (s ∷ statements) said h = absurd said
statements_fit names (p ∷ pieces) [] said h = absurd said
statements_fit names (p ∷ pieces) (s ∷ statements) said h =
    All-cons (IsWritten names) s statements (statement_fits names said.0.statement h.0) (statements_fit names pieces statements said.1 h.1)

-- ---- the commands of scripts and journals

commands_written : (names : Table) (statements : List Statement) → All (IsWritten names) statements → All (IsWrittenCommand names) (commands_ahead statements)
commands_written names [] h = All-nil (IsWrittenCommand names)
commands_written names (Clerk ∷ statements) h = All-nil (IsWrittenCommand names)
commands_written names (Command r ∷ statements) h =
    All-cons (IsWrittenCommand names) r (commands_ahead statements) (All-head (IsWritten names) (Command r) statements h)
    (commands_written names statements (All-tail (IsWritten names) (Command r) statements h))
commands_written names (s ∷ statements) h = commands_written names statements (All-tail (IsWritten names) s statements h)

pub scripts_written : (names : Table) (statements : List Statement) → All (IsWritten names) statements → All (All (IsWrittenCommand names)) (scripts_of statements)
scripts_written names [] h = All-nil (All (IsWrittenCommand names))
scripts_written names (Clerk ∷ statements) h =
    let rest = All-tail (IsWritten names) Clerk statements h in
    All-cons (All (IsWrittenCommand names)) (commands_ahead statements) (scripts_of statements) (commands_written names statements rest) (scripts_written names statements rest)
scripts_written names (s ∷ statements) h = scripts_written names statements (All-tail (IsWritten names) s statements h)

pub journal_written : (names : Table) (statements : List Statement) → All (IsWritten names) statements → All (λ call. IsWrittenCommand names call.1) (journal_of statements)
journal_written names [] h = All-nil (λ call. IsWrittenCommand names call.1)
journal_written names (Numbered clerk r ∷ statements) h =
    All-cons (λ call. IsWrittenCommand names call.1) (clerk, r) (journal_of statements) (All-head (IsWritten names) (Numbered clerk r) statements h)
    (journal_written names statements (All-tail (IsWritten names) (Numbered clerk r) statements h))
journal_written names (s ∷ statements) h = journal_written names statements (All-tail (IsWritten names) s statements h)

-- ---- texts

pub read_written : (text : Text) (names : Table) (statements : List Statement) → IsReadAs text names statements → All (IsWritten names) statements
read_written text names statements read =
    let fit = stand_fit names text 0 read.tokens (standing read.lexed text [] refl refl) in
    statements_fit names (pieces_of (toks read.tokens)) statements read.said (pieces_fit names (toks read.tokens) fit)

token_table : (what : Tok) (bytes : List ℕ) (before after : Table) → IsTextOf after what bytes → IsTable before → IsTable (table_with what bytes before)
token_table (K.Name x) bytes before after is h = by_place (place_of bytes before) refl
  where
    by_place : (found : Option ℕ) → place_of bytes before ≡ found → IsTable (with_text bytes before)
    by_place (Some i) e = rw (known (bytes_eq bytes) before i e) h
    by_place None e = rw (unknown (bytes_eq bytes) before e) (IsTable-push before bytes h is.0 e)
token_table (K.Word _) bytes before after is h = h
token_table (K.Number _) bytes before after is h = h
token_table (K.Day _) bytes before after is h = h
token_table (K.Sign _) bytes before after is h = h

reads_table : {before after : Table} {text rest : List ℕ} {place : ℕ} {tokens : List Token} → Reads before text place tokens after rest → IsTable before → IsTable after
reads_table Reads.Nothing h = h
reads_table (Reads.Next (X.Piece.Blank byte blank) reads) h = reads_table reads h
reads_table (Reads.Next (X.Piece.Comment bytes line ends) reads) h = reads_table reads h
reads_table (Reads.Next {before = before} {between = between} {bytes = bytes} (X.Piece.Lexeme token is) reads) h =
    reads_table reads (subst IsTable (sym is.table) (token_table token.what bytes before between is.text h))

no_texts : IsTable []
no_texts text place e = absurd cc

pub read_table : (text : Text) (names : Table) (statements : List Statement) → IsReadAs text names statements → IsTable names
read_table text names statements read = reads_table read.lexed no_texts
