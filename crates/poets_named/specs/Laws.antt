-- The laws of what can be written of residuals, answers and replies, as statements.
use Rattle.std.specs.Prelude.{[], List, All, Some, map}
use Rattle.poets_value.specs.Whole.{IsWholeTrace, IsWholeValue}
use Rattle.poets_value.specs.declared.event.Event.{Event}
use Rattle.poets_value.specs.declared.value.Name.{Name}
use Rattle.poets_lex.specs.Table.{Table, IsTable, Extends}
use Rattle.poets_expr.specs.Expression.{Expression}
use Rattle.poets_expr.specs.Fold.{HasDeclaredNames}
use Rattle.poets_expr.specs.Val.{val}
use Rattle.poets_expr.specs.Whole.{IsWholeExpression}
use Rattle.poets_syntax.specs.Contract.{Contract}
use Rattle.poets_syntax.specs.Plain.{Book}
use Rattle.poets_syntax.specs.Typing.{Fit}
use Rattle.poets_syntax.specs.WellFormed.{IsDeclaredEvent}
use Rattle.poets_meaning.specs.Marks.{Marks}
use Rattle.poets_calculus.specs.Residual.{residual_after}
use Rattle.poets_report.specs.Answers.{IsAnswer}
use Rattle.poets_report.specs.Plain.{Report, Answer}
use Rattle.poets_command.specs.Declarations.{book_from, reports_of}
use Rattle.poets_command.specs.Plain.{Entry}
use Rattle.poets_command.specs.Said.{Statement}
use Rattle.poets_command.specs.Taken.{IsTaken}
use Rattle.poets_command.specs.Typing.{IsTypedReport}
use Rattle.poets_history.specs.Histories.{IsLegal}
use Rattle.poets_print.specs.Laws.{CanWriteContract, CanWriteCommand}
use Rattle.poets_session.specs.Sessions.{Text, IsSession}
use Rattle.poets_session.specs.declared.form.Form.{Form}
use Rattle.poets_named.specs.Written.{IsListedEvent, CanWriteBook, IsWholeReport, AreTypedRules}
use Rattle.poets_named.specs.Written.{EachValue}
use Rattle.poets_named.specs.Written.{CanWriteReply}

-- a residual can be written with the names of a table, where the contract, the book and the trace
-- can
abbrev pub ResidualsCanBeWritten : Type 0
ResidualsCanBeWritten =
    (names : Table) (book : Book) (marks : Marks) (c : Contract) (trace : List Event) →
    CanWriteBook names book → CanWriteContract names c → All (IsListedEvent names) trace →
    CanWriteContract names (residual_after book marks c trace)

-- each value that a typed report answers is whole, and an agent or a kind in it is declared as
-- such, where the report, the arguments and the events are whole, and the events are declared
abbrev pub AnswersAreDeclared : Type 0
AnswersAreDeclared =
    (book : Book) (reports : List Name) (q : Report) (args : List Expression) (events : List Event) (a : Answer) →
    IsTypedReport book reports q → IsWholeReport q →
    Fit book.declared [] q.params args → All IsWholeExpression args →
    All (IsDeclaredEvent book.declared) events → IsWholeTrace events →
    IsAnswer book.declared q (map (val book.declared []) args) events a →
    EachValue (λ v. IsWholeValue v × HasDeclaredNames book.declared (Some v)) a

-- each reply of a legal history can be written with the names of a table, where the book and the
-- commands can be
abbrev pub RepliesCanBeWritten : Type 0
RepliesCanBeWritten =
    (names : Table) (book : Book) (reports : List Report) (h : List Entry) → IsTable names →
    CanWriteBook names book → AreTypedRules book reports → IsLegal book reports h →
    All (λ e. IsTaken book reports e.command × CanWriteCommand names e.command) h →
    All (λ e. CanWriteReply names book.declared e.reply) h

-- the book of a session can be written with the session's names, and its reports are typed and
-- whole
abbrev pub BooksOfSessionsCanBeWritten : Type 0
BooksOfSessionsCanBeWritten =
    (text : Text) (form : Form) (names : Table) (statements : List Statement) → IsSession text form names statements →
    CanWriteBook names (book_from statements) × AreTypedRules (book_from statements) (reports_of statements)

-- a book that can be written with the names of a table can be written with those of each table that
-- extends it
abbrev pub BooksStayWritten : Type 0
BooksStayWritten =
    (own names : Table) (book : Book) → Extends own names → CanWriteBook own book → CanWriteBook names book
