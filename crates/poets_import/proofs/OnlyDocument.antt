-- A value is the document of one thing at most.
use Rattle.std.proofs.Common.{◌≡◌, List, [], ◌∷◌, map, refl, sym, ap, subst, ◌∙◌}
use Rattle.std.specs.List.{flat_map}
use Rattle.serde_json.specs.Data.{Data, string}
use Rattle.poets_value.specs.declared.value.Name.{Name}
use Rattle.poets_value.specs.declared.value.Ty.{Ty}
use Rattle.poets_expr.specs.Env.{Declared}
use Rattle.poets_lex.specs.Table.{IsTable, Table}
use Rattle.poets_command.specs.Declarations.{declared_by, reports_of, template_in_statement}
use Rattle.poets_command.specs.Plain.{Entry}
use Rattle.poets_command.specs.Said.{Statement}
use Rattle.poets_json.specs.Document.{entry_data}
use Rattle.poets_json.specs.Plain.{Exported}
use Rattle.poets_import.specs.Laws.{OneDocument}
use Rattle.poets_import.specs.Reading.{IsDocumentOf, declared_in}
use Rattle.poets_import.specs.code.Parts.{AreSaidEntries}
use Rattle.poets_import.specs.code.Spoken.{AreRead, EntrySaid, IsSentence, Said}
use Rattle.poets_import.proofs.Decls.{one_list_says}
use Rattle.poets_import.proofs.OneWay.{one_entry_said, one_list, one_sentence_read}
use Rattle.poets_import.proofs.SaidReplies.{extends_itself}
use Rattle.poets_import.proofs.SameDocuments.{said_kept, same_entry, statements_kept}
use Rattle.poets_import.proofs.WholeDocuments.{are_said, entries_said, has_entries, has_said, has_statements, read_texts, said_by, texts_in}
use Rattle.poets_import.proofs.Lists.{heads, tails}

module _ (names : Table) (declared : Declared) (table : IsTable names) where
  -- two histories of one list of values that say the same
  same_histories :
      (es fs : List Entry) → AreSaidEntries names declared (map said_by es) es → AreSaidEntries names declared (map said_by fs) fs →
      map said_by es ≡ map said_by fs → map (entry_data names) es ≡ map (entry_data names) fs → es ≡ fs
  same_histories [] [] h k said same = refl
  same_histories [] (f ∷ fs) h k said same = absurd cc
  same_histories (e ∷ es) [] h k said same = absurd cc
  same_histories (e ∷ es) (f ∷ fs) h k said same =
      let first = heads (said_by e) (said_by f) (map said_by es) (map said_by fs) said in
      let here = same_entry names declared table e f h.0.told k.0.told (ap (λ (s : Said). s.0) first) (ap (λ (s : Said). s.1) first)
      (heads (entry_data names e) (entry_data names f) (map (entry_data names) es) (map (entry_data names) fs) same) in
      let rest = same_histories es fs h.1 k.1 (tails (said_by e) (said_by f) (map said_by es) (map said_by fs) said)
      (tails (entry_data names e) (entry_data names f) (map (entry_data names) es) (map (entry_data names) fs) same) in
      λ i. here i ∷ rest i

-- under one table
one_under :
    (before : Table) (value : Data) (after : Table) (x y : Exported) → IsTable before → (h : IsDocumentOf before value after x) →
    (k : IsDocumentOf before value after y) → h.book.statements ≡ k.book.statements →
    map said_by x.history ≡ map said_by y.history → x ≡ y
one_under before value after x y table h k same_statements same_said =
    let after_table = said_kept h.said (statements_kept h.book.read table) in
    let declared = one_list_says x.declared y.declared h.book.declared.order k.book.declared.order
    (λ name. sym (h.book.declare.names name) ∙ ap (λ (ss : List Statement). declared_by ss name) same_statements
    ∙ k.book.declare.names name) in
    let templates = sym h.book.declare.templates ∙ ap (flat_map template_in_statement) same_statements ∙ k.book.declare.templates in
    let reports = sym h.book.declare.reports ∙ ap reports_of same_statements ∙ k.book.declare.reports in
    let said = are_said after k.between after (declared_in y.declared) y.history (extends_itself after) k.entries k.said in
    let history = same_histories after (declared_in x.declared) after_table x.history y.history
    (are_said after h.between after (declared_in x.declared) x.history (extends_itself after) h.entries h.said)
    (subst (λ (ds : List (Name × Ty)). AreSaidEntries after (declared_in ds) (map said_by y.history) y.history) (sym declared) said)
    same_said (has_entries y h.document k) in
    λ i. record { declared = declared i; templates = templates i; reports = reports i; history = history i }

-- with the tables that both leave
one_left :
    (before : Table) (value : Data) (after end : Table) (x y : Exported) → IsTable before → (h : IsDocumentOf before value after x) →
    (k : IsDocumentOf before value end y) → after ≡ end → h.book.statements ≡ k.book.statements →
    map said_by x.history ≡ map said_by y.history → x ≡ y
one_left before value after end x y table h k same statements said =
    subst
    (λ (t : Table). (k : IsDocumentOf before value t y) → h.book.statements ≡ k.book.statements → x ≡ y) same
    (λ other others. one_under before value after x y table h other others said) k statements

pub one_document : OneDocument
one_document before value after end x y table h k =
    let texts = map string (texts_in after x) in
    let statements = one_list IsSentence one_sentence_read before h.between k.between texts h.book.statements k.book.statements
    (read_texts (texts_in after x) h.book.statements h.book.read) (has_statements (map (entry_data after) x.history) y h.document refl k) in
    let said = one_list EntrySaid one_entry_said h.between after end (map (entry_data after) x.history)
    (map said_by x.history) (map said_by y.history)
    (entries_said after h.between after x.history (extends_itself after) h.said)
    (subst (λ (t : Table). AreRead EntrySaid t (map (entry_data after) x.history) (map said_by y.history) end) (sym statements.1)
    (has_said y h.document k)) in
    (said.1, one_left before value after end x y table h k said.1 statements.0 said.0)
