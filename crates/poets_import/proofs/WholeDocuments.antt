-- Whole documents.
use Rattle.std.proofs.Common.{◌≡◌, ℕ, List, [], ◌∷◌, ◌++◌, All, map, refl, sym, ap, subst, ◌∙◌}
use Rattle.std.specs.List.{AllZip, flat_map}
use Rattle.std.proofs.lemmas.List.Elements.{All-nil, All-cons, All-head, All-tail}
use Rattle.serde_json.specs.Data.{Data, Items, array, string}
use Rattle.serde_json.specs.View.{items_of}
use Rattle.poets_expr.specs.Env.{Declared}
use Rattle.poets_lex.specs.Table.{Table, Extends}
use Rattle.poets_lex.proofs.Readings.{Extends-then}
use Rattle.poets_command.specs.Plain.{Entry}
use Rattle.poets_command.specs.Said.{Statement}
use Rattle.poets_books.specs.Books.{book_texts}
use Rattle.poets_json.specs.Document.{entry_data, list_data}
use Rattle.poets_json.specs.Plain.{Exported}
use Rattle.poets_import.specs.Phrases.{AreSaid, Nothing, Next, AreStatements, NoTexts, Text, Phrase, Says, Sentence, entry_phrases}
use Rattle.poets_import.specs.Reading.{AreDeclared, Declare, IsDocumentOf, IsReadable, declared_in}
use Rattle.poets_import.specs.code.Finding.{IsTold, owed_of}
use Rattle.poets_import.specs.code.Parts.{AreSaidEntries, IsFoundEntry, document_with}
use Rattle.poets_import.specs.code.Spoken.{AreRead, NoValues, Value, EntrySaid, IsSentence, Said, list_in}
use Rattle.poets_import.proofs.SaidReplies.{entry_extends, entry_phrases_said, entry_said, extends_itself, phrases_extend}
use Rattle.poets_import.proofs.SaidReplies.{replied_of, told_reply}

-- ---- statements

pub read_texts :
    {before after : Table} (texts : List (List ℕ)) (ss : List Statement) → AreStatements before texts ss after →
    AreRead IsSentence before (map string texts) ss after
read_texts [] ss NoTexts = NoValues
read_texts (text ∷ texts) ss (Text {ss = rest} says more) = Value (text, refl, says) (read_texts texts rest more)

same_string : (t u : List ℕ) → string t ≡ string u → t ≡ u
same_string t u e = cc

pub texts_read :
    {before after : Table} (texts : List (List ℕ)) (ss : List Statement) →
    AreRead IsSentence before (map string texts) ss after → AreStatements before texts ss after
texts_read [] ss NoValues = NoTexts
texts_read {before} (text ∷ texts) ss (Value {between = between} {x = s} {xs = rest} is more) =
    Text
    (subst (λ (t : List ℕ). Says before t (Sentence s) between) (sym (same_string text is.0 is.1)) is.2)
    (texts_read texts rest more)

-- ---- entries

-- what is said in two parts
record InTwo (names before : Table) (front rest : List Phrase) (after : Table) : Type 0 where
  between : Table
  first : AreSaid names before front between
  second : AreSaid names between rest after

in_two :
    (names before after : Table) (front rest : List Phrase) → AreSaid names before (front ++ rest) after →
    InTwo names before front rest after
in_two names before after [] rest said = record { between = before; first = Nothing; second = said }
in_two names before after (p ∷ front) rest (Next {between = between} says more) =
    let two = in_two names between after front rest more in
    record { between = two.between; first = Next says two.first; second = two.second }

in_one :
    {names before between after : Table} (front rest : List Phrase) → AreSaid names before front between →
    AreSaid names between rest after → AreSaid names before (front ++ rest) after
in_one [] rest Nothing second = second
in_one (p ∷ front) rest (Next says more) second = Next says (in_one front rest more second)

-- what an entry says
abbrev pub said_by : Entry → Said
said_by e = (e.command, owed_of e.reply)

pub entries_said :
    (names before after : Table) (es : List Entry) → Extends after names →
    AreSaid names before (flat_map entry_phrases es) after → AreRead EntrySaid before (map (entry_data names) es) (map said_by es) after
entries_said names before after [] more Nothing = NoValues
entries_said names before after (e ∷ es) more said =
    let two = in_two names before after (entry_phrases e) (flat_map entry_phrases es) said in
    let extends = Extends-then two.between after names (phrases_extend two.second) more in
    Value (entry_said names before two.between e extends two.first) (entries_said names two.between after es more two.second)

read_extends : {before after : Table} {ds : List Data} {xs : List Said} → AreRead EntrySaid before ds xs after → Extends before after
read_extends {before = before} NoValues = extends_itself before
read_extends {before = before} {after = after} (Value {between = between} here more) =
    Extends-then before between after (entry_extends here) (read_extends more)

pub said_entries :
    (names : Table) (declared : Declared) (before after : Table) → Extends after names →
    (es : List Entry) (all : List Said) → AllZip (IsFoundEntry names declared) all es →
    AreRead EntrySaid before (map (entry_data names) es) all after → AreSaid names before (flat_map entry_phrases es) after
said_entries names declared before after more [] [] found NoValues = Nothing
said_entries names declared before after more [] (x ∷ all) found _ = absurd found
said_entries names declared before after more (e ∷ es) [] found _ = absurd found
said_entries names declared before after more (e ∷ es) (x ∷ all) found (Value {between = between} here others) =
    let is = found.0 in
    let extends = Extends-then between after names (read_extends others) more in
    let said = subst (λ (s : Said). EntrySaid before (entry_data names e) s between) (said_as e x is.command) here in
    in_one (entry_phrases e) (flat_map entry_phrases es)
    (entry_phrases_said names before between declared e x.1 extends is.told is.owed said)
    (said_entries names declared between after more es all found.1 others)
  where
    said_as : (e : Entry) (x : Said) → e.command ≡ x.0 → x ≡ (e.command, x.1)
    said_as e x same i = (sym same i, x.1)

-- entries that are readable, and what they say
pub are_said :
    (names before after : Table) (declared : Declared) (es : List Entry) → Extends after names →
    All (IsReadable names declared) es → AreSaid names before (flat_map entry_phrases es) after →
    AreSaidEntries names declared (map said_by es) es
are_said names before after declared [] more readable said = tt
are_said names before after declared (e ∷ es) more readable said =
    let is = All-head (IsReadable names declared) e es readable in
    let two = in_two names before after (entry_phrases e) (flat_map entry_phrases es) said in (
      record { clerk = is.0; told = told_entry names before two.between declared e (between_extends two) is two.first; command = refl; owed = refl },
      are_said names two.between after declared es more (All-tail (IsReadable names declared) e es readable) two.second,
    )
  where
    between_extends : (two : InTwo names before (entry_phrases e) (flat_map entry_phrases es) after) → Extends two.between names
    between_extends two = Extends-then two.between after names (phrases_extend two.second) more

    told_entry :
        (names before between : Table) (declared : Declared) (e : Entry) → Extends between names → IsReadable names declared e →
        AreSaid names before (entry_phrases e) between → IsTold names declared e.reply
    told_entry names before between declared e extends is (Next {between = here} says rest) =
        told_reply names here between declared e.reply extends is.1 rest

pub readable :
    (names : Table) (declared : Declared) (all : List Said) (es : List Entry) → AllZip (IsFoundEntry names declared) all es →
    All (IsReadable names declared) es
readable names declared [] [] found = All-nil (IsReadable names declared)
readable names declared [] (e ∷ es) found = absurd found
readable names declared (x ∷ all) [] found = absurd found
readable names declared (x ∷ all) (e ∷ es) found =
    All-cons (IsReadable names declared) e es (found.0.clerk, replied_of names declared e.reply found.0.told)
    (readable names declared all es found.1)

-- ---- the document

listed_data : (ds : List Data) → list_in (items_of ds) ≡ ds
listed_data [] = refl
listed_data (d ∷ ds) = ap (λ (es : List Data). d ∷ es) (listed_data ds)

same_items : (i j : Items) → array i ≡ array j → i ≡ j
same_items i j e = cc

-- arrays with the same items
pub same_arrays : (ds es : List Data) → array (items_of ds) ≡ array (items_of es) → ds ≡ es
same_arrays ds es e = sym (listed_data ds) ∙ ap list_in (same_items (items_of ds) (items_of es) e) ∙ listed_data es

same_book : (b c : Data) (i j : Items) → document_with b i ≡ document_with c j → b ≡ c
same_book b c i j e = cc

same_history : (b c : Data) (i j : Items) → document_with b i ≡ document_with c j → array i ≡ array j
same_history b c i j e = cc

-- what was read of a document
pub record WasRead
    (before : Table) (d book : Data) (entries : List Data) (ss : List Statement) (between : Table) (all : List Said)
    (after : Table) : Type 0 where
  pub document : d ≡ document_with book (items_of entries)
  pub texts : List Data
  pub book_is : book ≡ array (items_of texts)
  pub statements : AreRead IsSentence before texts ss between
  pub said : AreRead EntrySaid between entries all after

-- the texts of the book of x
abbrev pub texts_in : Table → Exported → List (List ℕ)
texts_in names x = book_texts names x.declared x.templates x.reports

-- what was found is what the value is the document of
pub is_document :
    {before between after : Table} {d book : Data} {entries : List Data} {ss : List Statement} {all : List Said}
    (x : Exported) → WasRead before d book entries ss between all after →
    book ≡ list_data string (texts_in after x) → entries ≡ map (entry_data after) x.history → Declare ss x →
    AreDeclared x.declared → AllZip (IsFoundEntry after (declared_in x.declared)) all x.history →
    IsDocumentOf before d after x
is_document {before} {between} {after} {d} {book} {entries} {ss} {all} x was same_texts same_entries declare are found =
    let texts = same_arrays was.texts (map string (texts_in after x)) (sym was.book_is ∙ same_texts) in
    record {
      document = was.document ∙ (λ i. document_with (same_texts i) (items_of (same_entries i)));
      between = between;
      book = record {
        statements = ss;
        read = texts_read (texts_in after x) ss (subst (λ (ts : List Data). AreRead IsSentence before ts ss between) texts was.statements);
        declare = declare;
        declared = are;
      };
      said =
          said_entries after (declared_in x.declared) between after (extends_itself after) x.history all found
          (subst (λ (es : List Data). AreRead EntrySaid between es all after) same_entries was.said);
      entries = readable after (declared_in x.declared) all x.history found;
    }

-- ---- what a document of y has

pub has_book :
    {before after : Table} {d book : Data} {entries : Items} (y : Exported) → d ≡ document_with book entries →
    IsDocumentOf before d after y → book ≡ list_data string (texts_in after y)
has_book {after = after} {book = book} {entries = entries} y cut is =
    same_book book (list_data string (texts_in after y)) entries (items_of (map (entry_data after) y.history)) (sym cut ∙ is.document)

pub has_entries :
    {before after : Table} {d book : Data} {entries : List Data} (y : Exported) → d ≡ document_with book (items_of entries) →
    IsDocumentOf before d after y → entries ≡ map (entry_data after) y.history
has_entries {after = after} {book = book} {entries = entries} y cut is =
    same_arrays entries (map (entry_data after) y.history)
    (same_history book (list_data string (texts_in after y)) (items_of entries) (items_of (map (entry_data after) y.history)) (sym cut ∙ is.document))

-- its statements are those that were read
pub has_statements :
    {before after : Table} {d book : Data} (entries : List Data) {texts : List Data} (y : Exported) →
    d ≡ document_with book (items_of entries) → book ≡ array (items_of texts) → (is : IsDocumentOf before d after y) →
    AreRead IsSentence before texts is.book.statements is.between
has_statements {before} {after} entries {texts} y cut book_is is =
    let same = same_arrays texts (map string (texts_in after y)) (sym book_is ∙ has_book y cut is) in
    subst (λ (ts : List Data). AreRead IsSentence before ts is.book.statements is.between) (sym same)
    (read_texts (texts_in after y) is.book.statements is.book.read)

-- its entries say what was read
pub has_said :
    {before after : Table} {d book : Data} {entries : List Data} (y : Exported) →
    d ≡ document_with book (items_of entries) → (is : IsDocumentOf before d after y) →
    AreRead EntrySaid is.between entries (map said_by y.history) after
has_said {after = after} y cut is =
    subst (λ (es : List Data). AreRead EntrySaid is.between es (map said_by y.history) after) (sym (has_entries y cut is))
    (entries_said after is.between after y.history (extends_itself after) is.said)
