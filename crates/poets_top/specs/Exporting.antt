-- The word `export`.
use Rattle.std.specs.Prelude.{◌≡◌, ℕ, List, [], ◌∷◌, ◌++◌, Option}
use Rattle.std.specs.Io.KnownBytes.{Appends}
use Rattle.poets_value.specs.declared.value.Name.{Name}
use Rattle.poets_value.specs.declared.value.Ty.{Ty}
use Rattle.poets_io.specs.Streams.{GivesAll}
use Rattle.poets_lex.specs.Table.{Table}
use Rattle.poets_syntax.specs.Plain.{Book}
use Rattle.poets_report.specs.Plain.{Report}
use Rattle.poets_command.specs.Plain.{Entry}
use Rattle.poets_command.specs.Said.{Statement}
use Rattle.poets_command.specs.Declarations.{book_from, reports_of}
use Rattle.poets_json.specs.Document.{document_bytes}
use Rattle.poets_json.specs.Plain.{AreDeclaredNames}
use Rattle.poets_session.specs.declared.form.Form.TheVariants as F
use Rattle.poets_session.specs.Sessions.{Text, IsSession}
use Rattle.poets_top.specs.Replaying.{IsReplayOf}

-- the line is the document of a book, its reports and a history
pub record IsDocumentLine (names : Table) (book : Book) (reports : List Report) (h : List Entry)
    (line : List ℕ) : Type 0 where
  pub declared : List (Name × Ty)
  pub are : AreDeclaredNames book.declared declared
  pub is :
      line
      ≡ document_bytes names
      (record { declared = declared; templates = book.templates; reports = reports; history = h }) ++ 10 ∷ []

-- the history of the journal's calls is made, and its document is to be written
pub record ExportsJournal (names : Table) (statements : List Statement) (h : List Entry) (text : List ℕ) : Type 0 where
  pub history : IsReplayOf statements h
  pub document : IsDocumentLine names (book_from statements) (reports_of statements) h text

-- a journal was exported: what the source had left before and after, what the sink held before and
-- after, and the history
pub record HasExported (left left' held held' : Option (List ℕ)) (h : List Entry) : Type 0 where
  -- the source was read to its end, and its bytes are the text of a session with a journal; where
  -- it does not tell its bytes, there is such a text
  pub text : Text
  pub given : GivesAll left left' text
  pub names : Table
  pub statements : List Statement
  pub session : IsSession text F.Journal names statements
  -- the history is right, and has the journal's calls
  pub history : IsReplayOf statements h
  -- the sink got the document, where it tells what it holds
  pub line : List ℕ
  pub document : IsDocumentLine names (book_from statements) (reports_of statements) h line
  pub written : Appends held held' line
