-- Sessions: texts of statements that are in their places, are typed, and have a guarded book.
use Rattle.std.specs.Prelude.{◌≡◌, ℕ, List, [], ◌∷◌, None, IsTrue, map}
use Rattle.std.specs.List.{AllZip, flat_map}
use Rattle.std.specs.Arc.{arc_value}
use Rattle.std.specs.declared.alloc.Global.{Global}
use Rattle.std.specs.declared.sync.Arc.{Arc}
use Rattle.poets_value.specs.Listed.{Listed}
use Rattle.poets_lex.specs.declared.token.Token.{Token}
use Rattle.poets_lex.specs.Table.{Table}
use Rattle.poets_lex.specs.Lexes.{Lexes}
use Rattle.poets_grammar.specs.Tokens.{toks}
use Rattle.poets_grammar.specs.Statements.{IsStatement}
use Rattle.poets_grammar.specs.TooDeep.{IsTooDeep}
use Rattle.poets_syntax.specs.Book.{book_of}
use Rattle.poets_meaning.specs.Guarded.{IsGuarded}
use Rattle.poets_report.specs.Reports.{report_of}
use Rattle.poets_command.specs.Calls.{Call, command_of}
use Rattle.poets_command.specs.declared.call.Command.{Command as CodeCommand}
use Rattle.poets_command.specs.Said.{Statement, Clerk, Command, Numbered}
use Rattle.poets_command.specs.Declarations.{book_from, reports_of}
use Rattle.poets_command.specs.StatementDemands.{AreTypedStatements}
use Rattle.poets_command.specs.Plain as plain
use Rattle.poets_session.specs.Pieces.{Piece, pieces_of}
use Rattle.poets_session.specs.Places.{ArePlaced}
use Rattle.poets_session.specs.declared.form.Form.{Form}
use Rattle.poets_session.specs.declared.session.Session.{Session}

-- the bytes of a text
abbrev pub Text : Type 0
Text = List ℕ

-- a statement that is ended, is not too deep, and says this
pub record IsStatementPiece (piece : Piece) (s : Statement) : Type 0 where
  pub ended : IsTrue piece.ended
  pub shallow : ¬ (IsTooDeep piece.tokens)
  pub statement : IsStatement piece.tokens s

-- the text is cut into statements that say this; its names are numbered in this table
pub record IsReadAs (text : Text) (names : Table) (statements : List Statement) : Type 0 where
  pub tokens : List Token
  pub lexed : Lexes [] text 0 tokens names
  pub said : AllZip IsStatementPiece (pieces_of (toks tokens)) statements

-- the statements are a valid session of the form
pub record AreValid (form : Form) (statements : List Statement) : Type 0 where
  pub placed : ArePlaced form statements
  pub typed : AreTypedStatements statements
  pub guarded : IsGuarded (book_from statements)

-- the text is a session of the form
pub record IsSession (text : Text) (form : Form) (names : Table) (statements : List Statement) : Type 0 where
  pub read : IsReadAs text names statements
  pub valid : AreValid form statements

abbrev pub IsNoSession : Text → Form → Type 0
IsNoSession text form = (names : Table) (statements : List Statement) → ¬ (IsSession text form names statements)

-- the commands up to the next `clerk`
abbrev pub commands_ahead : List Statement → List plain.Command
commands_ahead [] = []
commands_ahead (Clerk ∷ statements) = []
commands_ahead (Command command ∷ statements) = command ∷ commands_ahead statements
commands_ahead (s ∷ statements) = commands_ahead statements

-- the scripts of the clerks: the commands after each `clerk`
abbrev pub scripts_of : List Statement → List (List plain.Command)
scripts_of [] = []
scripts_of (Clerk ∷ statements) = commands_ahead statements ∷ scripts_of statements
scripts_of (s ∷ statements) = scripts_of statements

abbrev pub numbered_call : Statement → List Call
numbered_call (Numbered clerk command) = (clerk, command) ∷ []
numbered_call s = []

-- the calls of the journal
abbrev pub journal_of : List Statement → List Call
journal_of statements = flat_map numbered_call statements

-- the commands of scripts
abbrev pub commands_in : List (Listed (Arc CodeCommand Global)) → List (List plain.Command)
commands_in scripts = map (λ script. map (λ c. command_of (arc_value c)) script.items) scripts

-- the calls of a journal
abbrev pub calls_in : List (ℕ × Arc CodeCommand Global) → List Call
calls_in journal = map (λ p. (p.0, command_of (arc_value p.1))) journal

-- the session holds what the statements say
pub record Represents (statements : List Statement) (session : Session) : Type 0 where
  pub book : book_of session.rules.studied.book ≡ book_from statements
  pub reports : map report_of session.rules.reports.items ≡ reports_of statements
  pub scripts : commands_in session.scripts.items ≡ scripts_of statements
  pub journal : calls_in session.journal.items ≡ journal_of statements

-- the text is a session of the form, and the code's session holds what it says
abbrev pub HoldsText : Text → Form → Session → Type 0
HoldsText text form session =
    (statements : List Statement) × IsSession text form session.names statements × Represents statements session
