-- The laws of what is exported, as statements: it is read back.
use Rattle.std.specs.Prelude.{◌≡◌, ◌<◌, ◌^◌, List, length, map}
use Rattle.std.specs.List.Sorted.{IsStrictlySortedBy}
use Rattle.poets_value.specs.declared.value.Name.{Name}
use Rattle.poets_value.specs.declared.value.Ty.{Ty}
use Rattle.poets_value.specs.Names.{name_cmp}
use Rattle.poets_lex.specs.Table.{Table, IsTable}
use Rattle.poets_command.specs.Calls.{calls_of}
use Rattle.poets_command.specs.Declarations.{book_from, declared_by, reports_of}
use Rattle.poets_command.specs.Plain.{Entry}
use Rattle.poets_command.specs.Said.{Statement}
use Rattle.poets_history.specs.Histories.{IsLegal}
use Rattle.poets_session.specs.Sessions.{Text, IsSession, journal_of}
use Rattle.poets_session.specs.declared.form.Form.{Form}
use Rattle.poets_json.specs.Plain.{AreDeclaredNames, Exported}
use Rattle.poets_json.specs.Document.{document, document_bytes}
use Rattle.poets_import.specs.Reading.{Declare, IsDocumentOf, IsReadAs}
use Rattle.poets_exchange.specs.Exportable.{CanWriteBookIn, CanWriteHistoryIn, IsExportable}
use Rattle.poets_exchange.specs.Exportable.{AreShort, book_in, exported_from, statements_in}

-- the statements of a book declare that book, and its reports
abbrev pub BooksDeclareThemselves : Type 0
BooksDeclareThemselves = (names : Table) (x : Exported) → CanWriteBookIn names x → Declare (statements_in x) x

-- the book that a session declares can be exported with the session's names, if its declared names
-- are in order
abbrev pub SessionBooksCanBeExported : Type 0
SessionBooksCanBeExported =
    (text : Text) (form : Form) (names : Table) (statements : List Statement) (x : Exported) →
    IsSession text form names statements → Declare statements x →
    IsStrictlySortedBy name_cmp (map (λ d. d.0) x.declared) → CanWriteBookIn names x

-- a legal history of a journal's calls can be exported with the names of the session
abbrev pub JournalsCanBeExported : Type 0
JournalsCanBeExported =
    (text : Text) (form : Form) (names : Table) (statements : List Statement) (x : Exported) →
    IsSession text form names statements → Declare statements x → IsLegal (book_in x) x.reports x.history →
    calls_of x.history ≡ journal_of statements → CanWriteHistoryIn names x

-- the document of what is exported is a document of just that, which leaves the table as it was
abbrev pub ExportedAreDocuments : Type 0
ExportedAreDocuments =
    (names : Table) (x : Exported) → IsTable names → IsExportable names x →
    IsDocumentOf names (document names x) names x

-- whatever the bytes of the document are read as, with whatever table: it is x, and the table is
-- the same
abbrev pub IsReadAsOnly : Table → Exported → Type 0
IsReadAsOnly names x =
    (after : Table) (y : Exported) → IsReadAs names (document_bytes names x) after y → (after ≡ names) × (y ≡ x)

-- the bytes of the document are read as x, with the same table, and as nothing else
abbrev pub IsReadBack : Table → Exported → Type 0
IsReadBack names x = IsReadAs names (document_bytes names x) names x × IsReadAsOnly names x

-- what is exported is read back; no number in the replies to fewer than 2 ^ 64 commands is too
-- large for JSON
abbrev pub ExportedAreReadBack : Type 0
ExportedAreReadBack =
    (names : Table) (x : Exported) → IsTable names → IsExportable names x → length x.history < 2 ^ 64 →
    IsReadBack names x

-- where a journal was exported, its document is read back as just the journal's book and that
-- history, with the names of the session, as far as no text of it is too deep
abbrev pub JournalsAreReadBack : Type 0
JournalsAreReadBack =
    (text : Text) (form : Form) (names : Table) (statements : List Statement) (declared : List (Name × Ty))
    (h : List Entry) →
    IsSession text form names statements → AreDeclaredNames (declared_by statements) declared →
    IsLegal (book_from statements) (reports_of statements) h → calls_of h ≡ journal_of statements →
    AreShort names (exported_from statements declared h) → length h < 2 ^ 64 →
    IsReadBack names (exported_from statements declared h)
