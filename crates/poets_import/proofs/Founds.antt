-- What was found of a document.
use Rattle.std.proofs.Common.{◌≡◌, ◌≤◌, Bool, true, false, List, [], ◌∷◌, All, map, refl, sym, ap, subst, ◌∙◌}
use Rattle.std.specs.List.{AllZip}
use Rattle.std.proofs.lemmas.List.Elements.{All-nil, All-cons, All-head, All-tail}
use Rattle.serde_json.specs.Data.{Data, depth}
use Rattle.serde_json.specs.Read.{max_depth}
use Rattle.serde_json.specs.View.{view}
use Rattle.serde_json.specs.declared.value.Value.{Value as Json}
use Rattle.poets_expr.specs.Env.{Declared, declared_of}
use Rattle.poets_syntax.specs.Book.{template_of}
use Rattle.poets_report.specs.Reports.{report_of}
use Rattle.poets_lex.specs.Table.{Table}
use Rattle.poets_command.specs.Plain.{Entry}
use Rattle.poets_command.specs.Said.{Statement}
use Rattle.poets_json.specs.Document.{entry_data}
use Rattle.poets_json.specs.Plain.{Exported}
use Rattle.poets_import.specs.Reading.{IsDocumentOf, IsNoDocument}
use Rattle.poets_import.specs.code.Parts.{AreSaidEntries, IsFoundEntry, book_data_of, data_of}
use Rattle.poets_import.specs.code.Spoken.{Said}
use Rattle.poets_import.specs.declared.book.Declared as code
use Rattle.poets_import.specs.declared.spoken.Spoken.{Spoken}
use Rattle.poets_import.proofs.Decls.{are_declared, table_says}
use Rattle.poets_import.proofs.NoDocuments.{WasHeard, entries_of, same_declared, was_of}
use Rattle.poets_import.proofs.WholeDocuments.{has_entries, is_document}

each_depth : (all : List Spoken) → All (λ v. depth (view v) ≤ max_depth) (map (λ s. s.value.now) all) → All (λ s. depth (data_of s) ≤ max_depth) all
each_depth [] deep = All-nil (λ (s : Spoken). depth (data_of s) ≤ max_depth)
each_depth (s ∷ all) deep =
    All-cons (λ (s : Spoken). depth (data_of s) ≤ max_depth) s all
    (All-head (λ (v : Json). depth (view v) ≤ max_depth) s.value.now (map (λ s. s.value.now) all) deep)
    (each_depth all (All-tail (λ (v : Json). depth (view v) ≤ max_depth) s.value.now (map (λ s. s.value.now) all) deep))

-- no entry that was read nests deeper than the entries
pub spoken_depths :
    (values : List Json) (all : List Spoken) → map (λ s. s.value.now) all ≡ values → All (λ v. depth (view v) ≤ max_depth) values →
    All (λ s. depth (data_of s) ≤ max_depth) all
spoken_depths values all e deep = each_depth all (subst (λ (vs : List Json). All (λ v. depth (view v) ≤ max_depth) vs) (sym e) deep)

-- what was found, with the entries that were found
abbrev pub whole : code.Declared → List Entry → Exported
whole found history = record {
  declared = found.book.decls.names.entries;
  templates = map template_of found.book.templates.items;
  reports = map report_of found.reports.items;
  history = history;
}

-- what was found is what the value is the document of
pub document_found :
    {before : Table} {d book : Data} {entries : List Data} {ss : List Statement} {all : List Said} {after : Table}
    {found : code.Declared} (history : List Entry) → WasHeard before d book entries ss all after found →
    book ≡ book_data_of after found → entries ≡ map (entry_data after) history →
    AllZip (IsFoundEntry after (declared_of found.book.decls.names)) all history →
    IsDocumentOf before d after (whole found history)
document_found {ss = ss} {all = all} {after = after} {found = found} history heard same_book same_entries are =
    is_document (whole found history)
    (record {
      document = heard.document;
      texts = heard.book_is.0;
      book_is = heard.book_is.1;
      statements = heard.book_is.2;
      said = heard.said;
    })
    same_book same_entries
    (record {
      names = λ name. sym (heard.declared.names name) ∙ table_says found.book.decls.names name;
      templates = sym heard.declared.templates;
      reports = sym heard.declared.reports;
    })
    (are_declared ss found.book.decls.names.entries heard.declared.order
    (λ name. sym (table_says found.book.decls.names name) ∙ heard.declared.names name))
    (subst (λ (declared : Declared). AllZip (IsFoundEntry after declared) all history) (same_declared found) are)

-- where no such entries are found
pub none_found :
    {before : Table} {d book : Data} {entries : List Data} {ss : List Statement} {all : List Said} {after : Table}
    {found : code.Declared} → WasHeard before d book entries ss all after found →
    ((es : List Entry) → AreSaidEntries after (declared_of found.book.decls.names) all es → entries ≡ map (entry_data after) es → ⊥) →
    IsNoDocument before d
none_found heard none end y is =
    let was = was_of y heard is in
    none y.history (entries_of was) (has_entries y heard.document was.document)

each_value : (all : List Spoken) → map data_of all ≡ map view (map (λ s. s.value.now) all)
each_value [] = refl
each_value (s ∷ all) = ap (λ (ds : List Data). data_of s ∷ ds) (each_value all)

-- the values of what was read
pub data_values : (values : List Json) (all : List Spoken) → map (λ s. s.value.now) all ≡ values → map data_of all ≡ map view values
data_values values all e = each_value all ∙ ap (map view) e

pub not_both : (b : Bool) → b ≡ true → b ≡ false → ⊥
not_both b e f = absurd cc
