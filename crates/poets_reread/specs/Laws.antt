-- The laws of calls that are read again, as statements.
use Rattle.std.specs.Prelude.{◌≡◌, ℕ, List, ◌∷◌, ◌++◌, take, All}
use Rattle.poets_lex.specs.Table.{Table, IsTable, Extends}
use Rattle.poets_syntax.specs.Plain.{Book}
use Rattle.poets_report.specs.Plain.{Report}
use Rattle.poets_command.specs.Calls.{Call, calls_of}
use Rattle.poets_command.specs.Declarations.{book_from, reports_of}
use Rattle.poets_command.specs.Plain.{Entry}
use Rattle.poets_command.specs.Said.{Statement}
use Rattle.poets_session.specs.declared.form.Form.TheVariants as F
use Rattle.poets_session.specs.Sessions.{Text, IsReadAs, IsSession}
use Rattle.poets_reread.specs.Reread.{texts_of_calls, IsReadCall, AreListedNames, AreReread}
use Rattle.poets_reread.specs.Reread.{IsCallOf, BeginScripts}

-- the texts of calls that were read under one table are calls under another, which has the names of
-- the book in the same places
abbrev pub TextsAreReread : Type 0
TextsAreReread =
    (book : Book) (reports : List Report) (own names before : Table) (calls : List Call) →
    IsTable names → IsTable before → Extends own names → Extends own before → AreListedNames book reports own →
    All (IsReadCall book reports names) calls →
    AreReread book reports before (texts_of_calls names calls)

-- the texts of calls of a session of clerks are calls of its book, under the book's own table of
-- names
abbrev pub CallsOfSessionsAreReread : Type 0
CallsOfSessionsAreReread =
    (text book : Text) (names own : Table) (statements declared : List Statement) (calls : List Call) →
    IsSession text F.Clerks names statements → IsReadAs book own declared → Extends own names →
    book_from declared ≡ book_from statements → reports_of declared ≡ reports_of statements →
    All (IsCallOf statements) calls →
    AreReread (book_from declared) (reports_of declared) own (texts_of_calls names calls)

-- the texts of the first calls of a history of a session are calls of the session's book, under the
-- book's own table of names
abbrev pub FirstCallsAreReread : Type 0
FirstCallsAreReread =
    (text book : Text) (names own : Table) (statements declared : List Statement) (h : List Entry) (count : ℕ) →
    IsSession text F.Clerks names statements → IsReadAs book own declared → Extends own names →
    book_from declared ≡ book_from statements → reports_of declared ≡ reports_of statements →
    BeginScripts statements h →
    AreReread (book_from declared) (reports_of declared) own (take count (texts_of_calls names (calls_of h)))

-- where a text is a book, a line end (10), and more, the names of the book have their places in the
-- text's table
abbrev pub BooksAreNumberedFirst : Type 0
BooksAreNumberedFirst =
    (book rest : Text) (own names : Table) (declared statements : List Statement) →
    IsReadAs book own declared → IsReadAs (book ++ 10 ∷ rest) names statements → Extends own names
