-- The book of a session can be exported.
use Rattle.std.proofs.Common.{◌≡◌, List, [], ◌∷◌, All, Option, Some, None, IfSome, sym, subst}
use Rattle.std.proofs.lemmas.List.Elements.{All-nil, All-cons, All-head, All-tail}
use Rattle.poets_expr.specs.Expression.{Expression}
use Rattle.poets_syntax.specs.Plain.{Book}
use Rattle.poets_report.specs.Plain as plain
use Rattle.poets_lex.specs.Table.{Table}
use Rattle.poets_command.specs.Declarations.{book_from, reports_of}
use Rattle.poets_command.specs.Said.{Statement, Report}
use Rattle.poets_books.specs.Laws.{CanWriteKey, CanWriteReport}
use Rattle.poets_session.specs.Written.{IsWritten, IsWrittenExpression, IsWrittenReport}
use Rattle.poets_session.proofs.LawsFitting.{read_written}
use Rattle.poets_named.specs.Written.{AreTypedRules, CanWriteBook}
use Rattle.poets_named.proofs.SessionBooks.{books_of_sessions_can_be_written}
use Rattle.poets_json.specs.Plain.{Exported}
use Rattle.poets_import.specs.Reading.{Declare}
use Rattle.poets_import.proofs.Decls.{are_declared}
use Rattle.poets_exchange.specs.Exportable.{book_in}
use Rattle.poets_exchange.specs.Laws.{SessionBooksCanBeExported}

module _ (names : Table) where
  can_key : (key : Option Expression) → IfSome key (IsWrittenExpression names) → CanWriteKey names key
  can_key None h = tt
  can_key (Some key) h = h.0

  can_report : (q : plain.Report) → IsWrittenReport names q → CanWriteReport names q
  can_report q h = record {
    name = h.name;
    params = h.params;
    start = h.start.0;
    carry = h.carry;
    binders = h.binders;
    step = h.step.0;
    key = can_key q.key h.key;
  }

  can_reports : (ss : List Statement) → All (IsWritten names) ss → All (CanWriteReport names) (reports_of ss)
  can_reports [] h = All-nil (CanWriteReport names)
  can_reports (Report q ∷ ss) h =
      All-cons (CanWriteReport names) q (reports_of ss) (can_report q (All-head (IsWritten names) (Report q) ss h))
      (can_reports ss (All-tail (IsWritten names) (Report q) ss h))
  can_reports (s ∷ ss) h = can_reports ss (All-tail (IsWritten names) s ss h)

pub same_book : (statements : List Statement) (x : Exported) → Declare statements x → book_from statements ≡ book_in x
same_book statements x declare =
    λ i. record { declared = λ name. declare.names name i; templates = declare.templates i }

-- what is known of the book of a session and its reports
abbrev IsKnown : Table → Book → List plain.Report → Type 0
IsKnown names book reports = CanWriteBook names book × AreTypedRules book reports

pub session_books_can_be_exported : SessionBooksCanBeExported
session_books_can_be_exported text form names statements x session declare order =
    let can = books_of_sessions_can_be_written text form names statements session in
    let ours : IsKnown names (book_in x) x.reports =
    subst (λ (qs : List plain.Report). IsKnown names (book_in x) qs) declare.reports
    (subst (λ (book : Book). IsKnown names book (reports_of statements)) (same_book statements x declare) can) in
    record {
      declared = are_declared statements x.declared order (λ name. sym (declare.names name));
      book = ours.0;
      rules = ours.1;
      reports = subst (All (CanWriteReport names)) declare.reports
          (can_reports names statements (read_written text names statements session.read));
    }
