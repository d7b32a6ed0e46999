-- What is read of a document's texts that have names.
use Rattle.std.specs.Prelude.{◌≡◌, ◌≢◌, ℕ, List, [], ◌∷◌, Option, Some, None, codes}
use Rattle.poets_value.specs.declared.value.Name.{Name}
use Rattle.poets_syntax.specs.Contract.{Contract}
use Rattle.poets_lex.specs.declared.token.Tok.{Tok}
use Rattle.poets_lex.specs.declared.token.Token.{Token}
use Rattle.poets_lex.specs.Lexes.{Lexes}
use Rattle.poets_lex.specs.Table.{IsName, Table}
use Rattle.poets_command.specs.Plain as plain
use Rattle.poets_command.specs.Said.{Statement, Command}
use Rattle.serde_json.specs.Data.{Data, Items, array, no_items, item, string}
use Rattle.serde_json.specs.View.{items_of}
use Rattle.serde_json.specs.Find.{get}
use Rattle.poets_import.specs.Phrases.{AreSentence, Called, Owed, Phrase, Say, Says, Sentence}
use Rattle.poets_import.specs.code.Members.{first_text, items_at, text_at}

-- the text has no tokens
abbrev pub HasNoTokens : Table → List ℕ → Type 0
HasNoTokens before text = (tokens : List Token) (after : Table) → ¬ (Lexes before text 0 tokens after)

-- the tokens are no statement that is not too deep
abbrev pub AreNoSentence : List Tok → Type 0
AreNoSentence ts = (s : Statement) → ¬ (AreSentence ts s)

-- the tokens are no contract that could be registered
abbrev pub AreNoContract : List Tok → Type 0
AreNoContract ts = (c : Contract) → ¬ (Say ts (Owed c))

-- the tokens are not a name alone
abbrev pub AreNoName : List Tok → Type 0
AreNoName ts = (x : Name) → ¬ (Say ts (Called x))

-- the text says none of these
abbrev pub SaysNo : {A : Type 0} → (A → Phrase) → Table → List ℕ → Type 0
SaysNo {A} phrase_of before text = (x : A) (after : Table) → ¬ (Says before text (phrase_of x) after)

-- the text says no command
abbrev pub SaysNoCommand : Table → List ℕ → Type 0
SaysNoCommand before text = SaysNo (λ c. Sentence (Command c)) before text

-- the text is a name, and says it
pub record IsCalled (before : Table) (text : List ℕ) (x : Name) (after : Table) : Type 0 where
  pub is_name : IsName text
  pub says : Says before text (Called x) after

-- the statement is none of these
abbrev pub IsOtherThan : {A : Type 0} → (A → Statement) → Statement → Type 0
IsOtherThan {A} statement_of s = (x : A) → s ≢ statement_of x

-- the statement registers this contract
abbrev pub Registers : Contract → Statement → Type 0
Registers c s = (x : Name) × (s ≡ Command (plain.Register x c))

-- the statement registers no contract
abbrev pub IsNoRegistration : Statement → Type 0
IsNoRegistration s = (c : Contract) → ¬ (Registers c s)

-- what is read in this way of what there is: nothing
abbrev pub IsNone : {A B : Type 0} → (Table → A → B → Table → Type 0) → Table → A → Type 0
IsNone {A} {B} Is before d = (x : B) (after : Table) → ¬ (Is before d x after)

-- values are read one after the other, each from the table that the one ahead of it left
pub data AreRead {A : Type 0} (Is : Table → Data → A → Table → Type 0) :
    Table → List Data → List A → Table → Type 0 where
  NoValues : {names : Table} → AreRead Is names [] [] names
  Value :
      {before between after : Table} {d : Data} {ds : List Data} {x : A} {xs : List A} →
      Is before d x between → AreRead Is between ds xs after → AreRead Is before (d ∷ ds) (x ∷ xs) after

-- the value is the text of this statement
abbrev pub IsSentence : Table → Data → Statement → Table → Type 0
IsSentence before d s after = (text : List ℕ) × (d ≡ string text) × Says before text (Sentence s) after

-- the value is the list of the texts of these statements
abbrev pub IsBookSaid : Table → Data → List Statement → Table → Type 0
IsBookSaid before d ss after =
    (texts : List Data) × (d ≡ array (items_of texts)) × AreRead IsSentence before texts ss after

-- the first item of the value is the text of this name
abbrev pub IsRowOf : Table → Data → Name → Table → Type 0
IsRowOf before d x after = (text : List ℕ) × (first_text d ≡ Some text) × IsCalled before text x after

abbrev pub list_in : Items → List Data
list_in no_items = []
list_in (item d ds) = d ∷ list_in ds

-- nothing is to be read there
abbrev pub IsNowhere : {A : Type 0} → (Table → A → Table → Type 0) → Table → A → Type 0
IsNowhere Is before d = (after : Table) → ¬ (Is before d after)

-- the text, if there is one, is a name
abbrev pub NameSaid : Table → Option (List ℕ) → Table → Type 0
NameSaid before None after = before ≡ after
NameSaid before (Some text) after = (x : Name) × IsCalled before text x after

-- the rows, if there are some, begin with names
abbrev pub RowsSaid : Table → Option Items → Table → Type 0
RowsSaid before None after = before ≡ after
RowsSaid before (Some rows) after = (xs : List Name) × AreRead IsRowOf before (list_in rows) xs after

-- the text, if there is one, is what is owed
abbrev pub OwedSaid : Table → Option (List ℕ) → Option Contract → Table → Type 0
OwedSaid before None owed after = (owed ≡ None) × (before ≡ after)
OwedSaid before (Some text) owed after = (c : Contract) × (owed ≡ Some c) × Says before text (Owed c) after

-- what a reply says in texts: a name, the names of rows, and what is owed
pub record ReplySaid (before : Table) (reply : Data) (owed : Option Contract) (after : Table) : Type 0 where
  pub named : Table
  pub listed : Table
  pub name : NameSaid before (text_at (codes "name") reply) named
  pub rows : RowsSaid named (items_at (codes "rows") reply) listed
  pub residual : OwedSaid listed (text_at (codes "residual") reply) owed after

-- what an entry says in texts: its command, and then its reply
abbrev pub Said : Type 0
Said = plain.Command × Option Contract

pub record EntrySaid (before : Table) (entry : Data) (said : Said) (after : Table) : Type 0 where
  pub text : List ℕ
  pub reply : Data
  pub between : Table
  pub has_text : text_at (codes "command") entry ≡ Some text
  pub has_reply : get (codes "reply") entry ≡ Some reply
  pub command : Says before text (Sentence (Command said.0)) between
  pub replied : ReplySaid between reply said.1 after
