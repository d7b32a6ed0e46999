-- Values that are the document of nothing.
use Rattle.std.proofs.Common.{◌≡◌, List, map, sym, ap, subst, ◌∙◌}
use Rattle.std.specs.List.{flat_map}
use Rattle.std.proofs.Math.Path.{fun_ext}
use Rattle.serde_json.specs.Data.{Data, string}
use Rattle.serde_json.specs.View.{items_of}
use Rattle.poets_value.specs.declared.value.Name.{Name}
use Rattle.poets_value.specs.declared.value.Ty.{Ty}
use Rattle.poets_expr.specs.Env.{Declared, declared_of}
use Rattle.poets_syntax.specs.Book.{template_of}
use Rattle.poets_report.specs.Reports.{report_of}
use Rattle.poets_lex.specs.Table.{Table}
use Rattle.poets_command.specs.Said.{Statement}
use Rattle.poets_command.specs.Declarations.{declared_by, reports_of, template_in_statement}
use Rattle.poets_books.specs.Books.{book_texts}
use Rattle.poets_json.specs.Document.{list_data}
use Rattle.poets_json.specs.Plain.{Exported}
use Rattle.poets_import.specs.Reading.{IsDocumentOf, IsNoDocument, declared_in}
use Rattle.poets_import.specs.code.Gathering.{IsDeclaredBy}
use Rattle.poets_import.specs.code.Parts.{AreSaidEntries, book_data_of, document_with}
use Rattle.poets_import.specs.code.Spoken.{AreRead, EntrySaid, IsBookSaid, IsNone, IsSentence, Said}
use Rattle.poets_import.specs.declared.book.Declared as code
use Rattle.poets_import.proofs.Decls.{one_list_says, table_says}
use Rattle.poets_import.proofs.OneWay.{IsOneWay, one_entry_said, one_list, one_sentence_read}
use Rattle.poets_import.proofs.SaidReplies.{extends_itself}
use Rattle.poets_import.proofs.WholeDocuments.{are_said, has_book, has_said, read_texts, said_by, same_arrays, texts_in}

pub one_book : IsOneWay IsBookSaid
one_book before after end d ss others h k =
    let texts = same_arrays k.0 h.0 (sym k.1 ∙ h.1) in
    one_list IsSentence one_sentence_read before after end h.0 ss others h.2
    (subst (λ (ts : List Data). AreRead IsSentence before ts others end) texts k.2)

-- the book of a document is said
book_said :
    {before after : Table} {d book : Data} (entries : List Data) (y : Exported) → d ≡ document_with book (items_of entries) →
    (is : IsDocumentOf before d after y) → IsBookSaid before book is.book.statements is.between
book_said {after = after} entries y cut is =
    (map string (texts_in after y), has_book y cut is, read_texts (texts_in after y) is.book.statements is.book.read)

-- where the book is not said
pub no_book :
    (before : Table) (d book : Data) (entries : List Data) → d ≡ document_with book (items_of entries) →
    IsNone IsBookSaid before book → IsNoDocument before d
no_book before d book entries cut none after y is = none is.book.statements is.between (book_said entries y cut is)

-- where the entries are not
pub no_entries :
    (before between : Table) (d book : Data) (entries : List Data) (ss : List Statement) →
    d ≡ document_with book (items_of entries) → IsBookSaid before book ss between → IsNone (AreRead EntrySaid) between entries →
    IsNoDocument before d
no_entries before between d book entries ss cut said none after y is =
    let same = one_book before between is.between book ss is.book.statements said (book_said entries y cut is) in
    none (map said_by y.history) after
    (subst (λ (t : Table). AreRead EntrySaid t entries (map said_by y.history) after) (sym same.1) (has_said y cut is))

-- what was read of a value, and what it declares
pub record WasHeard
    (before : Table) (d book : Data) (entries : List Data) (ss : List Statement) (all : List Said) (after : Table)
    (found : code.Declared) : Type 0 where
  pub document : d ≡ document_with book (items_of entries)
  pub between : Table
  pub book_is : IsBookSaid before book ss between
  pub said : AreRead EntrySaid between entries all after
  pub declared : IsDeclaredBy ss found

-- what is known of a document of y
pub record WasOf
    (before : Table) (d book : Data) (entries : List Data) (all : List Said) (after : Table) (found : code.Declared)
    (y : Exported) : Type 0 where
  pub document : IsDocumentOf before d after y
  pub all_said : all ≡ map said_by y.history
  pub names : found.book.decls.names.entries ≡ y.declared
  pub templates : map template_of found.book.templates.items ≡ y.templates
  pub reports : map report_of found.reports.items ≡ y.reports

pub was_of :
    {before : Table} {d book : Data} {entries : List Data} {ss : List Statement} {all : List Said} {after end : Table}
    {found : code.Declared} (y : Exported) → WasHeard before d book entries ss all after found →
    IsDocumentOf before d end y → WasOf before d book entries all after found y
was_of {before} {d} {book} {entries} {ss} {all} {after} {end} {found} y heard is =
    let same = one_book before heard.between is.between book ss is.book.statements heard.book_is (book_said entries y heard.document is) in
    let theirs = subst (λ (t : Table). AreRead EntrySaid t entries (map said_by y.history) end) (sym same.1) (has_said y heard.document is) in
    let said = one_list EntrySaid one_entry_said heard.between after end entries all (map said_by y.history) heard.said theirs in
    record {
      document = subst (λ (t : Table). IsDocumentOf before d t y) (sym said.1) is;
      all_said = said.0;
      names =
          one_list_says found.book.decls.names.entries y.declared heard.declared.order is.book.declared.order
          (λ name. sym (table_says found.book.decls.names name) ∙ heard.declared.names name
          ∙ ap (λ (others : List Statement). declared_by others name) same.0 ∙ is.book.declare.names name);
      templates = heard.declared.templates ∙ ap (flat_map template_in_statement) same.0 ∙ is.book.declare.templates;
      reports = heard.declared.reports ∙ ap reports_of same.0 ∙ is.book.declare.reports;
    }

-- where the book is another
pub no_such_book :
    {before : Table} {d book : Data} {entries : List Data} {ss : List Statement} {all : List Said} {after : Table}
    {found : code.Declared} → WasHeard before d book entries ss all after found → (book ≡ book_data_of after found → ⊥) →
    IsNoDocument before d
no_such_book {after = after} {found = found} heard other end y is =
    let was = was_of y heard is in
    other
    (has_book y heard.document was.document
    ∙ (λ i. list_data string (book_texts after (sym was.names i) (sym was.templates i) (sym was.reports i))))

-- what is declared, as a list says it
pub same_declared : (found : code.Declared) → declared_of found.book.decls.names ≡ declared_in found.book.decls.names.entries
same_declared found = fun_ext (table_says found.book.decls.names)

-- the entries of a document are said
pub entries_of :
    {before : Table} {d book : Data} {entries : List Data} {all : List Said} {after : Table} {found : code.Declared} {y : Exported} →
    WasOf before d book entries all after found y →
    AreSaidEntries after (declared_of found.book.decls.names) all y.history
entries_of {after = after} {found = found} {y = y} was =
    let is = was.document in
    let said = are_said after is.between after (declared_in y.declared) y.history (extends_itself after) is.entries is.said in
    let under = subst (λ (ds : List (Name × Ty)). AreSaidEntries after (declared_in ds) (map said_by y.history) y.history) (sym was.names) said in
    subst (λ (all : List Said). AreSaidEntries after (declared_of found.book.decls.names) all y.history) (sym was.all_said)
    (subst (λ (declared : Declared). AreSaidEntries after declared (map said_by y.history) y.history) (sym (same_declared found)) under)
