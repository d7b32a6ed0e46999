-- What is read is read in one way.
use Rattle.std.proofs.Common.{◌≡◌, ℕ, ◌+◌, ◌<◌, List, [], ◌∷◌, ◌++◌, length, take, drop, get_or, map, Option, Some, None, refl, sym, ap, subst, ◌∙◌}
use Rattle.std.specs.Prelude.{codes}
use Rattle.std.proofs.lemmas.List.{map-append}
use Rattle.poets_value.specs.declared.value.Name.{Name}
use Rattle.poets_syntax.specs.Contract.{Contract}
use Rattle.poets_lex.specs.declared.token.Tok.{Tok}
use Rattle.poets_lex.specs.declared.token.Tok.TheVariants as K
use Rattle.poets_lex.specs.declared.token.Token.{Token}
use Rattle.poets_lex.specs.Table.{Table}
use Rattle.poets_lex.specs.Lexes.{Lexes}
use Rattle.poets_lex.proofs.OneWay.{one-reading}
use Rattle.poets_grammar.specs.StatementReading.{statement}
use Rattle.poets_grammar.specs.Statements.{IsCommand, IsStatement}
use Rattle.poets_grammar.specs.Tokens.{toks}
use Rattle.poets_grammar.proofs.Statements.{statement_complete}
use Rattle.poets_grammar.proofs.Steps.{one_answer}
use Rattle.poets_command.specs.Plain as plain
use Rattle.poets_command.specs.Said.{Statement, Command}
use Rattle.serde_json.specs.Data.{Data, Items, string}
use Rattle.serde_json.specs.View.{view}
use Rattle.serde_json.specs.declared.value.Value.{Value as Json}
use Rattle.poets_import.specs.Phrases.{AreSentence, Called, Owed, Phrase, Say, Says, Sentence, registration, some_name}
use Rattle.poets_import.specs.code.Members.{items_at, text_at}
use Rattle.poets_import.specs.code.Spoken.{AreRead, NoValues, Value, EntrySaid, IsCalled, IsNone, IsRowOf, IsSentence, NameSaid}
use Rattle.poets_import.specs.code.Spoken.{OwedSaid, Registers, ReplySaid, RowsSaid, Said, list_in}
use Rattle.poets_import.proofs.Lists.{map_cut, map_more}

pub one_statement : (ts : List Tok) (a b : Statement) → IsStatement ts a → IsStatement ts b → a ≡ b
one_statement ts a b h k = one_answer (statement ts) a b (statement_complete h) (statement_complete k)

one_sentence : (s t : Statement) → Sentence s ≡ Sentence t → s ≡ t
one_sentence s t e = cc

one_registered : (x : Name) (c d : Contract) → Command (plain.Command.Register x c) ≡ Command (plain.Command.Register x d) → c ≡ d
one_registered x c d e = cc

one_name : (ts : List Tok) (x y : Name) → ts ≡ K.Name x ∷ [] → ts ≡ K.Name y ∷ [] → x ≡ y
one_name ts x y e f = cc

registered_name : (ts : List Tok) (x : Name) (c : Contract) → IsStatement (registration ++ ts) (Command (plain.Command.Register x c)) → x ≡ some_name
registered_name ts x c (IsStatement.Command (IsCommand.Register is)) = refl

-- what registers a contract says that it is owed
pub owed_said :
    (ts us : List Tok) (s : Statement) (c : Contract) → us ≡ registration ++ ts → AreSentence us s → Registers c s →
    Say ts (Owed c)
owed_said ts us s c e are registers =
    let here = subst (λ (vs : List Tok). AreSentence vs s) e are in
    let at = subst (AreSentence (registration ++ ts)) registers.1 here in
    subst (λ (x : Name). AreSentence (registration ++ ts) (Command (plain.Command.Register x c)))
    (registered_name ts registers.0 c at.said) at

-- what says that a contract is owed registers it
pub owed_registers :
    (ts us : List Tok) (s : Statement) (c : Contract) → us ≡ registration ++ ts → AreSentence us s → Say ts (Owed c) →
    Registers c s
owed_registers ts us s c e are owed = (
  some_name,
  one_statement (registration ++ ts) s (Command (plain.Command.Register some_name c))
      (subst (λ (vs : List Tok). IsStatement vs s) e are.said) owed.said,
)

-- the tokens of a text that is cut are those of what it says
pub say_same :
    {before after end : Table} {text : List ℕ} {tokens : List Token} {phrase : Phrase} →
    Lexes before text 0 tokens after → Says before text phrase end → Say (toks tokens) phrase × (after ≡ end)
say_same {before} {after} {end} {text} {tokens} {phrase} cut says =
    let same = one-reading before text 0 tokens says.tokens after end cut says.cut in (
      subst (λ (ts : List Token). Say (toks ts) phrase) (sym same.0) says.say,
      same.1,
    )

pub one_said_sentence :
    {before after end : Table} {text : List ℕ} {s t : Statement} →
    Says before text (Sentence s) after → Says before text (Sentence t) end → (s ≡ t) × (after ≡ end)
one_said_sentence {s = s} {t = t} h k =
    let other = say_same h.cut k in (one_statement (toks h.tokens) s t h.say.said other.0.said, other.1)

pub one_said_contract :
    {before after end : Table} {text : List ℕ} {c d : Contract} →
    Says before text (Owed c) after → Says before text (Owed d) end → (c ≡ d) × (after ≡ end)
one_said_contract {c = c} {d = d} h k =
    let other = say_same h.cut k in (
      one_registered some_name c d
          (one_statement (registration ++ toks h.tokens) (Command (plain.Command.Register some_name c))
          (Command (plain.Command.Register some_name d)) h.say.said other.0.said),
      other.1,
    )

pub one_said_name :
    {before after end : Table} {text : List ℕ} {x y : Name} →
    Says before text (Called x) after → Says before text (Called y) end → (x ≡ y) × (after ≡ end)
one_said_name {x = x} {y = y} h k =
    let other = say_same h.cut k in (one_name (toks h.tokens) x y h.say other.0, other.1)

-- ---- values that are read one after the other

-- what is read in this way is one thing, and leaves one table
abbrev pub IsOneWay : {A B : Type 0} → (Table → A → B → Table → Type 0) → Type 0
IsOneWay {A} {B} Is =
    (before after end : Table) (d : A) (x y : B) → Is before d x after → Is before d y end → (x ≡ y) × (after ≡ end)

module _ {A : Type 0} (Is : Table → Data → A → Table → Type 0) where
  -- one value more
  pub read_more :
      {before between after : Table} {ds : List Data} {d : Data} {xs : List A} {x : A} →
      AreRead Is before ds xs between → Is between d x after → AreRead Is before (ds ++ d ∷ []) (xs ++ x ∷ []) after
  read_more NoValues is = Value is NoValues
  read_more (Value here more) is = Value here (read_more more is)

  same_lists : (x y : A) (xs ys : List A) → x ≡ y → xs ≡ ys → x ∷ xs ≡ y ∷ ys
  same_lists x y xs ys e f = cc

  pub one_list :
      IsOneWay Is → (before after end : Table) (ds : List Data) (xs ys : List A) →
      AreRead Is before ds xs after → AreRead Is before ds ys end → (xs ≡ ys) × (after ≡ end)
  one_list one before after end [] xs ys NoValues NoValues = (refl, refl)
  one_list one before after end (d ∷ ds) xs ys
      (Value {between = t} {x = x} {xs = rest} here more) (Value {between = u} {x = y} {xs = others} there others_read) =
      let head = one before t u d x y here there in
      let tail = one_list one t after end ds rest others more
      (subst (λ (b : Table). AreRead Is b ds others end) (sym head.1) others_read) in
      (same_lists x y rest others head.0 tail.0, tail.1)

  -- a value that is nothing after what was read ahead of it: then all are nothing
  pub blocked :
      IsOneWay Is → (before between : Table) (ds : List Data) (d : Data) (rest : List Data) (xs : List A) →
      AreRead Is before ds xs between → IsNone Is between d → IsNone (AreRead Is) before (ds ++ d ∷ rest)
  blocked one before between [] d rest xs NoValues none ys end (Value {between = t} {x = y} here more) = none y t here
  blocked one before between (first ∷ ds) d rest xs (Value {between = t} {x = x} {xs = others} here more) none ys end
      (Value {between = u} {x = y} {xs = zs} there last) =
      let head = one before t u first x y here there in
      blocked one t between ds d rest others more none zs end
      (subst (λ (b : Table). AreRead Is b (ds ++ d ∷ rest) zs end) (sym head.1) last)

  pub nothing_read : (before : Table) (xs : List A) → xs ≡ [] → AreRead Is before [] xs before
  nothing_read before xs e = subst (λ (ys : List A). AreRead Is before [] ys before) (sym e) NoValues

module _ {A C : Type 0} (Is : Table → Data → A → Table → Type 0) (view_of : C → A) where
  -- the next of the values is read
  pub next_read :
      {before between after : Table} (values : List Json) (xs : List C) {new : List C} {x : C} (i : ℕ) (item : Json) →
      i < length values → item ≡ get_or values i item →
      AreRead Is before (map view (take i values)) (map view_of xs) between → Is between (view item) (view_of x) after →
      new ≡ xs ++ x ∷ [] → AreRead Is before (map view (take (i + 1) values)) (map view_of new) after
  next_read values xs {x = x} i item low here read is pushed =
      rw (map_more view values i item low here, pushed, map-append view_of xs (x ∷ [])) (read_more Is read is)

  -- the next of the values is not read
  pub next_unread :
      IsOneWay Is → {before between : Table} (values : List Json) (xs : List C) (i : ℕ) (item : Json) →
      i < length values → item ≡ get_or values i item →
      AreRead Is before (map view (take i values)) (map view_of xs) between → IsNone Is between (view item) →
      IsNone (AreRead Is) before (map view values)
  next_unread one {before} {between} values xs i item low here read none =
      rw (map_cut view values i item low here)
      (blocked Is one before between (map view (take i values)) (view item) (map view (drop (i + 1) values)) (map view_of xs) read none)

-- ---- the texts of a document

same_string : (d : Data) (t u : List ℕ) → d ≡ string t → d ≡ string u → t ≡ u
same_string d t u e f = cc

same_some : {A : Type 0} {o : Option A} {a b : A} → o ≡ Some a → o ≡ Some b → a ≡ b
same_some e f = cc

pub one_sentence_read : IsOneWay IsSentence
one_sentence_read before after end d s t h k =
    one_said_sentence h.2
    (subst (λ (text : List ℕ). Says before text (Sentence t) end) (same_string d k.0 h.0 k.1 h.1) k.2)

pub one_row_read : IsOneWay IsRowOf
one_row_read before after end d x y h k =
    one_said_name h.2.says (subst (λ (text : List ℕ). IsCalled before text y end) (same_some k.1 h.1) k.2).says

pub one_name_said : (before after end : Table) (o : Option (List ℕ)) → NameSaid before o after → NameSaid before o end → after ≡ end
one_name_said before after end None h k = sym h ∙ k
one_name_said before after end (Some text) h k = (one_said_name h.1.says k.1.says).1

pub one_rows_said : (before after end : Table) (o : Option Items) → RowsSaid before o after → RowsSaid before o end → after ≡ end
one_rows_said before after end None h k = sym h ∙ k
one_rows_said before after end (Some rows) h k =
    (one_list IsRowOf one_row_read before after end (list_in rows) h.0 k.0 h.1 k.1).1

pub one_owed_said :
    (before after end : Table) (text : Option (List ℕ)) (x y : Option Contract) →
    OwedSaid before text x after → OwedSaid before text y end → (x ≡ y) × (after ≡ end)
one_owed_said before after end None x y h k = (h.0 ∙ sym k.0, sym h.1 ∙ k.1)
one_owed_said before after end (Some text) x y h k =
    let same = one_said_contract h.2 k.2 in (h.1 ∙ ap Some same.0 ∙ sym k.1, same.1)

pub one_reply_said :
    (before after end : Table) (d : Data) (x y : Option Contract) →
    ReplySaid before d x after → ReplySaid before d y end → (x ≡ y) × (after ≡ end)
one_reply_said before after end d x y h k =
    let named = one_name_said before h.named k.named (text_at (codes "name") d) h.name k.name in
    let rows_after = subst (λ (t : Table). RowsSaid t (items_at (codes "rows") d) k.listed) (sym named) k.rows in
    let listed = one_rows_said h.named h.listed k.listed (items_at (codes "rows") d) h.rows rows_after in
    let owed_after = subst (λ (t : Table). OwedSaid t (text_at (codes "residual") d) y end) (sym listed) k.residual in
    one_owed_said h.listed after end (text_at (codes "residual") d) x y h.residual owed_after

same_said : (x y : Said) → x.0 ≡ y.0 → x.1 ≡ y.1 → x ≡ y
same_said x y e f i = (e i, f i)

one_command : (c d : plain.Command) → Command c ≡ Command d → c ≡ d
one_command c d e = cc

pub one_command_said :
    {before after end : Table} {text : List ℕ} {c d : plain.Command} →
    Says before text (Sentence (Command c)) after → Says before text (Sentence (Command d)) end → (c ≡ d) × (after ≡ end)
one_command_said {c = c} {d = d} h k = let same = one_said_sentence h k in (one_command c d same.0, same.1)

pub one_entry_said : IsOneWay EntrySaid
one_entry_said before after end d x y h k =
    let text = same_some k.has_text h.has_text in
    let reply = same_some k.has_reply h.has_reply in
    let command = one_command_said h.command (subst (λ (t : List ℕ). Says before t (Sentence (Command y.0)) k.between) text k.command) in
    let replied = subst (λ (t : Table). ReplySaid t h.reply y.1 end) (sym command.1)
    (subst (λ (r : Data). ReplySaid k.between r y.1 end) reply k.replied) in
    let owed = one_reply_said h.between after end h.reply x.1 y.1 h.replied replied in
    (same_said x y command.0 owed.0, owed.1)

-- ---- rows

pub next_row :
    {before between after : Table} (rows : List Json) {xs new : List Name} {x : Name} (i : ℕ) (row : Json) →
    i < length rows → row ≡ get_or rows i row → AreRead IsRowOf before (map view (take i rows)) xs between →
    IsRowOf between (view row) x after → new ≡ xs ++ x ∷ [] →
    AreRead IsRowOf before (map view (take (i + 1) rows)) new after
next_row rows i row low here read is pushed =
    rw (map_more view rows i row low here, pushed) (read_more IsRowOf read is)

pub next_no_row :
    {before between : Table} (rows : List Json) {xs : List Name} (i : ℕ) (row : Json) →
    i < length rows → row ≡ get_or rows i row → AreRead IsRowOf before (map view (take i rows)) xs between →
    IsNone IsRowOf between (view row) → IsNone (AreRead IsRowOf) before (map view rows)
next_no_row {before} {between} rows {xs} i row low here read none =
    rw (map_cut view rows i row low here)
    (blocked IsRowOf one_row_read before between (map view (take i rows)) (view row) (map view (drop (i + 1) rows)) xs read none)
