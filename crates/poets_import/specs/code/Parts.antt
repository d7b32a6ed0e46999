-- The parts of a document.
use Rattle.std.specs.Prelude.{◌≡◌, ◌≢◌, ◌<◌, ◌^◌, List, map, option_map, codes}
use Rattle.std.specs.List.{AllZip}
use Rattle.std.specs.Arc.{arc_value}
use Rattle.serde_json.specs.Data.{Data, Items, array, member, no_members, object, string}
use Rattle.serde_json.specs.View.{items_view, view}
use Rattle.serde_json.specs.declared.value.Value.{Value as Json}
use Rattle.poets_lex.specs.Table.{Table}
use Rattle.poets_expr.specs.Env.{Declared}
use Rattle.poets_syntax.specs.Book.{template_of}
use Rattle.poets_syntax.specs.Contract.{contract_of}
use Rattle.poets_report.specs.Reports.{report_of}
use Rattle.poets_books.specs.Books.{book_texts}
use Rattle.poets_json.specs.Document.{entry_data, list_data}
use Rattle.poets_command.specs.Calls.{command_of}
use Rattle.poets_command.specs.Plain as plain
use Rattle.poets_import.specs.code.Finding.{IsTold, ShowsOwed, owed_of}
use Rattle.poets_import.specs.code.Spoken.{Said}
use Rattle.poets_import.specs.declared.book.Declared as code
use Rattle.poets_import.specs.declared.spoken.Spoken.{Spoken}

-- the value with this book and these entries
abbrev pub document_with : (book : Data) → (entries : Items) → Data
document_with book entries =
    object (member (codes "book") book
    (member (codes "format") (string (codes "poets 1")) (member (codes "history") (array entries) no_members)))

-- the value has this book and these entries
abbrev pub HasParts : Data → (book : Data) → (entries : List Json) → Type 0
HasParts d book entries = d ≡ document_with book (items_view entries)

-- the value has no book with entries
abbrev pub HasNoParts : Data → Type 0
HasNoParts d = (book : Data) (entries : Items) → d ≢ document_with book entries

-- the value of the book and its reports
abbrev pub book_data_of : Table → code.Declared → Data
book_data_of names x =
    list_data string (book_texts names x.book.decls.names.entries (map template_of x.book.templates.items)
    (map report_of x.reports.items))

-- what the texts of an entry say, as plain data
abbrev pub said_of : Spoken → Said
said_of s = (command_of (arc_value s.command), option_map contract_of s.owed)

-- the value of the entry
abbrev pub data_of : Spoken → Data
data_of s = view s.value.now

-- the entry was found where its texts say this
pub record IsFoundEntry (names : Table) (declared : Declared) (said : Said) (e : plain.Entry) : Type 0 where
  pub clerk : e.clerk < 2 ^ 32
  pub told : IsTold names declared e.reply
  pub command : e.command ≡ said.0
  pub owed : ShowsOwed said.1 e.reply

-- the entry is readable, and what its texts say is this
pub record IsSaidEntry (names : Table) (declared : Declared) (said : Said) (e : plain.Entry) : Type 0 where
  pub clerk : e.clerk < 2 ^ 32
  pub told : IsTold names declared e.reply
  pub command : e.command ≡ said.0
  pub owed : owed_of e.reply ≡ said.1

-- the entries are, one by one
abbrev pub AreSaidEntries : Table → Declared → List Said → List plain.Entry → Type 0
AreSaidEntries names declared all entries = AllZip (IsSaidEntry names declared) all entries

-- no entries say this and have these values
abbrev pub AreNoEntries : Table → Declared → List Said → List Data → Type 0
AreNoEntries names declared all ds =
    (es : List plain.Entry) → AreSaidEntries names declared all es → ds ≢ map (entry_data names) es
