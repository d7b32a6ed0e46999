-- The law of printed statements, as a statement: they read back.
use Rattle.std.specs.Prelude.{◌≢◌, List, [], ◌∷◌, All, Option, Some, None}
use Rattle.poets_expr.specs.Expression.{Expression}
use Rattle.poets_expr.specs.Whole.{IsWholeExpression}
use Rattle.poets_syntax.specs.Whole.{IsWholeContract}
use Rattle.poets_command.specs.Taken.{IsWholeCommand}
use Rattle.poets_command.specs.Said.{Statement, Agents, Kinds, Template, Report, Clerk, Journal}
use Rattle.poets_command.specs.Said.{Command, Numbered}
use Rattle.poets_command.specs.Plain as plain
use Rattle.poets_lex.specs.declared.token.Token.{Token}
use Rattle.poets_lex.specs.Table.{Table, IsTable}
use Rattle.poets_lex.specs.Lexes.{Lexes}
use Rattle.poets_grammar.specs.Tokens.{toks}
use Rattle.poets_grammar.specs.Statements.{IsStatement}
use Rattle.poets_print.specs.Laws.{IsListed, CanWrite, CanWriteContract, CanWriteNumber}
use Rattle.poets_print.specs.Laws.{CanWriteCommand}
use Rattle.poets_books.specs.Statements.{statement_text}

-- the template can be written with the names of the table
pub record CanWriteTemplate (names : Table) (t : plain.Template) : Type 0 where
  pub name : IsListed names t.name
  pub params : All (λ p. IsListed names p.name) t.params
  pub body : CanWriteContract names t.body

-- the key, if there is one, can be written with the names of the table
abbrev pub CanWriteKey : Table → Option Expression → Type 0
CanWriteKey names None = Unit {0}
CanWriteKey names (Some key) = CanWrite names key

-- the report can be written with the names of the table
pub record CanWriteReport (names : Table) (q : plain.Report) : Type 0 where
  pub name : IsListed names q.name
  pub params : All (λ p. IsListed names p.name) q.params
  pub start : CanWrite names q.start
  pub carry : IsListed names q.carry
  pub binders : All (IsListed names) (q.binders.sender ∷ q.binders.receiver ∷ q.binders.what ∷ q.binders.day ∷ [])
  pub step : CanWrite names q.step
  pub key : CanWriteKey names q.key

-- the statement can be written with the names of the table; one that declares agents or kinds has a
-- name
abbrev pub CanWriteStatement : Table → Statement → Type 0
CanWriteStatement names (Agents xs) = All (IsListed names) xs × (xs ≢ [])
CanWriteStatement names (Kinds xs) = All (IsListed names) xs × (xs ≢ [])
CanWriteStatement names (Template t) = CanWriteTemplate names t
CanWriteStatement names (Report q) = CanWriteReport names q
CanWriteStatement names Clerk = Unit {0}
CanWriteStatement names Journal = Unit {0}
CanWriteStatement names (Command c) = CanWriteCommand names c
CanWriteStatement names (Numbered clerk c) = CanWriteNumber clerk × CanWriteCommand names c

-- each number in a key is a whole number of the language, and each day one of its days
abbrev pub IsWholeKey : Option Expression → Type 0
IsWholeKey None = Unit {0}
IsWholeKey (Some key) = IsWholeExpression key

-- each number that is a value in the statement is a whole number of the language, and each day one
-- of its days
abbrev pub IsWholeStatement : Statement → Type 0
IsWholeStatement (Template t) = IsWholeContract t.body
IsWholeStatement (Report q) = IsWholeExpression q.start × IsWholeExpression q.step × IsWholeKey q.key
IsWholeStatement (Command c) = IsWholeCommand c
IsWholeStatement (Numbered clerk c) = IsWholeCommand c
IsWholeStatement _ = Unit {0}

-- the text of a statement is cut into tokens, without a new name, and the tokens are that statement
abbrev pub StatementReadsBack : Type 0
StatementReadsBack =
    (names : Table) (statement : Statement) → IsTable names → IsWholeStatement statement →
    CanWriteStatement names statement →
    (tokens : List Token) × Lexes names (statement_text names statement) 0 tokens names
    × IsStatement (toks tokens) statement
