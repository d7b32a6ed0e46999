-- What can be written of a book and of replies with the names of a table.
use Rattle.std.specs.Prelude.{◌≡◌, List, All, Option, Some, IfSome}
use Rattle.poets_value.specs.Civil.{IsDayNumber}
use Rattle.poets_value.specs.declared.event.Event.{Event}
use Rattle.poets_value.specs.declared.value.Name.{Name}
use Rattle.poets_value.specs.declared.value.Ty.{Ty}
use Rattle.poets_value.specs.declared.value.Value.{Value}
use Rattle.poets_lex.specs.Table.{Table}
use Rattle.poets_expr.specs.Env.{Declared}
use Rattle.poets_expr.specs.Whole.{IsWholeExpression}
use Rattle.poets_syntax.specs.Plain.{Book}
use Rattle.poets_syntax.specs.Whole.{IsWholeBook, IsWholeContract}
use Rattle.poets_report.specs.Plain.{Report, Answer, Single, Rows}
use Rattle.poets_command.specs.Plain.{Reply}
use Rattle.poets_command.specs.Typing.{IsTypedReport}
use Rattle.poets_command.specs.TypedStatements.{report_names}
use Rattle.poets_print.specs.Laws.{IsListed, CanWriteContract}
use Rattle.poets_books.specs.Laws.{CanWriteTemplate, IsWholeKey}
use Rattle.poets_literals.specs.Declared.{IsAsDeclared}

-- the agents and the kind of the event are in the table
pub record IsListedEvent (names : Table) (e : Event) : Type 0 where
  pub sender : IsListed names e.sender
  pub receiver : IsListed names e.receiver
  pub kind : IsListed names e.what.kind

-- the agents and kinds of the book are in the table, and its templates can be written with its
-- names
pub record CanWriteBook (names : Table) (book : Book) : Type 0 where
  pub declared : (x : Name) (t : Ty) → book.declared x ≡ Some t → IsListed names x
  pub templates : All (CanWriteTemplate names) book.templates

-- each number in the report is a whole number of the language, and each day one of its days
pub record IsWholeReport (q : Report) : Type 0 where
  pub start : IsWholeExpression q.start
  pub step : IsWholeExpression q.step
  pub key : IsWholeKey q.key

-- the reports are typed under the book, and they and the book's templates are whole
pub record AreTypedRules (book : Book) (reports : List Report) : Type 0 where
  pub typed : All (IsTypedReport book (report_names reports)) reports
  pub whole : All IsWholeReport reports
  pub templates : IsWholeBook book

-- P holds of each key and each value of the answer, but where it is undefined
abbrev pub EachValue : (Value → Type 0) → Answer → Type 0
EachValue P (Single v) = IfSome v P
EachValue P (Rows rows) = All (λ r. IfSome r.0 P × IfSome r.1 P) rows

-- P holds of the total, where there is one and it is defined
abbrev pub EachTotal : (Value → Type 0) → Option (Option Value) → Type 0
EachTotal P total = IfSome total (λ v. IfSome v P)

-- the reply can be written: its names are in the table, its values are as declared, and the
-- residual that it shows is whole
abbrev pub CanWriteReply : Table → Declared → Reply → Type 0
CanWriteReply names declared (Reply.NoContract x) = IsListed names x
CanWriteReply names declared (Reply.Late day) = IsDayNumber day
CanWriteReply names declared (Reply.Shown residual count may_end ended) =
    CanWriteContract names residual × IsWholeContract residual
CanWriteReply names declared (Reply.Answered a) = EachValue (IsAsDeclared names declared) a
CanWriteReply names declared (Reply.Folio rows total) =
    All (λ row. IsListed names row.0 × EachValue (IsAsDeclared names declared) row.1) rows
    × EachTotal (IsAsDeclared names declared) total
CanWriteReply names declared _ = Unit {0}
