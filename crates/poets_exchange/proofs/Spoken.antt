-- The texts of what is exported say it.
use Rattle.std.proofs.Common.{◌≡◌, Bool, true, false, List, [], ◌∷◌, ◌++◌, All, map, Option, Some, None, IfSome, refl}
use Rattle.std.proofs.Common.{arith}
use Rattle.std.specs.Prelude.{filter, if◌then◌else◌}
use Rattle.std.specs.List.{flat_map}
use Rattle.std.proofs.lemmas.Bool.Decides.{nat_tests}
use Rattle.std.proofs.lemmas.List.{append-nil}
use Rattle.std.proofs.lemmas.List.Elements.{All-nil, All-cons, All-head, All-tail, All-append, All-filter, All-map}
use Rattle.std.proofs.lemmas.List.Elements.{All-weaker}
use Rattle.poets_value.specs.declared.value.Name.{Name}
use Rattle.poets_value.specs.declared.value.Ty.{Ty}
use Rattle.poets_value.specs.declared.value.Ty.TheVariants as T
use Rattle.poets_value.specs.declared.value.Value.{Value}
use Rattle.poets_expr.specs.Env.{Declared, same_name}
use Rattle.poets_syntax.specs.Contract.{Contract}
use Rattle.poets_syntax.specs.TypeOf.{Scope}
use Rattle.poets_syntax.specs.Whole.{IsWholeContract}
use Rattle.poets_report.specs.Plain.{Answer, Single, Rows}
use Rattle.poets_lex.specs.Table.{Table, IsTable}
use Rattle.poets_lex.proofs.CutTexts.{cut_end, cut_name}
use Rattle.poets_command.specs.Plain.{Reply, Entry}
use Rattle.poets_command.specs.Said.{Statement, Agents, Kinds, Command}
use Rattle.poets_command.specs.Said as said
use Rattle.poets_grammar.specs.Statements.{IsStatement, IsCommand}
use Rattle.poets_print.specs.Laws.{IsListed, CanWriteContract}
use Rattle.poets_print.proofs.WritingCommands.{contract_reads_back}
use Rattle.poets_books.specs.Books.{names_with, declaration}
use Rattle.poets_books.specs.Laws.{CanWriteReport, CanWriteStatement, CanWriteTemplate, IsWholeStatement}
use Rattle.poets_books.specs.Statements.{statement_text}
use Rattle.poets_books.proofs.WritingStatements.{statement_reads_back}
use Rattle.poets_literals.specs.Declared.{IsAsDeclared}
use Rattle.poets_named.specs.Written.{CanWriteReply, EachTotal, EachValue, IsWholeReport}
use Rattle.poets_json.specs.Plain.{Exported}
use Rattle.poets_import.specs.Phrases.{AreSaid, Nothing, Next, AreStatements, NoTexts, Text, Phrase, Says, Sentence}
use Rattle.poets_import.specs.Phrases.{Owed, Called}
use Rattle.poets_import.specs.Phrases.{entry_phrases, phrase_text, reply_phrases}
use Rattle.poets_import.specs.Reading.{HasReplied, HasTotal, HasValues, IsIfDefined, declared_in}
use Rattle.poets_exchange.specs.Exportable.{CanWriteBookIn, IsShort, statements_in}
use Rattle.poets_exchange.proofs.Lists.{both_hold, front_holds, rest_holds}

-- ---- declared names

-- the name is declared with some type
abbrev IsFound : Scope → Name → Type 0
IsFound ds x = (t : Ty) × (declared_in ds x ≡ Some t)

found_later :
    (b : Bool) (s : Ty) (o : Option Ty) → (t : Ty) × (o ≡ Some t) → (t : Ty) × ((if b then Some s else o) ≡ Some t)
found_later true s o h = (s, refl)
found_later false s o h = h

itself_same : (x : Name) → same_name x x ≡ true
itself_same x = grind (arith, nat_tests)

found_first : (d : Name × Ty) (ds : Scope) → IsFound (d ∷ ds) d.0
found_first d ds = (d.1, rw (itself_same d.0) refl)

-- each name of a list is found in it
each_found : (ds : Scope) → All (λ d. IsFound ds d.0) ds
each_found [] = All-nil (λ d. IsFound [] d.0)
each_found (d ∷ ds) =
    All-cons (λ e. IsFound (d ∷ ds) e.0) d ds (found_first d ds)
    (All-weaker (λ e. IsFound ds e.0) (λ e. IsFound (d ∷ ds) e.0)
    (λ e h. found_later (same_name d.0 e.0) d.1 (declared_in ds e.0) h) ds (each_found ds))

module _ (names : Table) where
  -- ---- the statements of a book

  abbrev IsWritten : Statement → Type 0
  IsWritten s = IsWholeStatement s × CanWriteStatement names s

  listed_names : (x : Exported) → CanWriteBookIn names x → (ty : Ty) → All (IsListed names) (names_with ty x.declared)
  listed_names x can ty =
      All-map (IsListed names) (λ d. d.0) (filter _ x.declared)
      (All-filter _ (λ d. IsListed names d.0) x.declared
      (All-weaker (λ d. IsFound x.declared d.0) (λ d. IsListed names d.0) (λ d h. can.book.declared d.0 h.0 h.1)
      x.declared (each_found x.declared)))

  agents_written : (xs : List Name) → All (IsListed names) xs → All IsWritten (declaration Agents xs)
  agents_written [] h = All-nil IsWritten
  agents_written (x ∷ xs) h = All-cons IsWritten (Agents (x ∷ xs)) [] (tt, (h, λ e. absurd cc)) (All-nil IsWritten)

  kinds_written : (xs : List Name) → All (IsListed names) xs → All IsWritten (declaration Kinds xs)
  kinds_written [] h = All-nil IsWritten
  kinds_written (x ∷ xs) h = All-cons IsWritten (Kinds (x ∷ xs)) [] (tt, (h, λ e. absurd cc)) (All-nil IsWritten)

  templates_written : (x : Exported) → CanWriteBookIn names x → All IsWritten (map said.Template x.templates)
  templates_written x can =
      All-map IsWritten said.Template x.templates
      (both_hold (λ t. IsWholeContract t.body) (CanWriteTemplate names) x.templates can.rules.templates
      can.book.templates)

  reports_written : (x : Exported) → CanWriteBookIn names x → All IsWritten (map said.Report x.reports)
  reports_written x can =
      All-map IsWritten said.Report x.reports
      (All-weaker (λ q. IsWholeReport q × CanWriteReport names q) (λ q. IsWritten (said.Report q))
      (λ q h. ((h.0.start, h.0.step, h.0.key), h.1)) x.reports
      (both_hold IsWholeReport (CanWriteReport names) x.reports can.rules.whole can.reports))

  pub statements_written : (x : Exported) → CanWriteBookIn names x → All IsWritten (statements_in x)
  statements_written x can =
      let agents = declaration Agents (names_with T.Agent x.declared) in
      let kinds = declaration Kinds (names_with T.Kind x.declared) in
      let templates = map said.Template x.templates in
      All-append IsWritten (agents ++ kinds ++ templates) (map said.Report x.reports)
      (All-append IsWritten (agents ++ kinds) templates
      (All-append IsWritten agents kinds
      (agents_written (names_with T.Agent x.declared) (listed_names x can T.Agent))
      (kinds_written (names_with T.Kind x.declared) (listed_names x can T.Kind)))
      (templates_written x can))
      (reports_written x can)

  module _ (table : IsTable names) where
    -- ---- what is said

    -- the text of the phrase says it
    abbrev pub IsSpoken : Phrase → Type 0
    IsSpoken p = Says names (phrase_text names p) p names

    sentence_spoken : (s : Statement) → IsWritten s → IsShort names (Sentence s) → IsSpoken (Sentence s)
    sentence_spoken s can short =
        let read = statement_reads_back names s table can.0 can.1 in
        record { tokens = read.0; cut = read.1; say = record { said = read.2; shallow = short read.0 names read.1 } }

    name_spoken : (x : Name) → IsListed names x → IsSpoken (Called x)
    name_spoken x listed =
        let read = (rw append-nil at (cut_name x table listed cut_end tt)).at 0 in
        record { tokens = read.0; cut = read.1; say = read.2 }

    contract_spoken :
        (c : Contract) → CanWriteContract names c × IsWholeContract c → IsShort names (Owed c) → IsSpoken (Owed c)
    contract_spoken c can short =
        let read = contract_reads_back names c table can.1 can.0 in
        record {
          tokens = read.0;
          cut = read.1;
          say = record {
            said = IsStatement.Command (IsCommand.Register read.2);
            shallow = short read.0 names read.1;
          };
        }

    pub statements_spoken :
        (ss : List Statement) → All IsWritten ss → All (IsShort names) (map Sentence ss) →
        AreStatements names (map (statement_text names) ss) ss names
    statements_spoken [] can short = NoTexts
    statements_spoken (s ∷ ss) can short =
        Text
        (sentence_spoken s (All-head IsWritten s ss can)
        (All-head (IsShort names) (Sentence s) (map Sentence ss) short))
        (statements_spoken ss (All-tail IsWritten s ss can)
        (All-tail (IsShort names) (Sentence s) (map Sentence ss) short))

    pub phrases_said : (ps : List Phrase) → All IsSpoken ps → AreSaid names names ps names
    phrases_said [] h = Nothing
    phrases_said (p ∷ ps) h = Next (All-head IsSpoken p ps h) (phrases_said ps (All-tail IsSpoken p ps h))

    -- ---- entries

    module _ (declared : Declared) where
      reply_spoken :
          (r : Reply) → CanWriteReply names declared r → All (IsShort names) (reply_phrases r) →
          All IsSpoken (reply_phrases r)
      reply_spoken (Reply.NoContract x) can short =
          All-cons IsSpoken (Called x) [] (name_spoken x can) (All-nil IsSpoken)
      reply_spoken (Reply.Shown c n may_end ended) can short =
          All-cons IsSpoken (Owed c) []
          (contract_spoken c can (All-head (IsShort names) (Owed c) [] short)) (All-nil IsSpoken)
      reply_spoken (Reply.Folio rows total) can short =
          All-map IsSpoken (λ row. Called row.0) rows
          (All-weaker (λ row. IsListed names row.0 × EachValue (IsAsDeclared names declared) row.1)
          (λ row. IsSpoken (Called row.0)) (λ row h. name_spoken row.0 h.0) rows can.0)
      reply_spoken r can short = All-nil IsSpoken

      -- what is known of an entry
      abbrev pub IsGood : Entry → Type 0
      IsGood e = IsWritten (Command e.command) × CanWriteReply names declared e.reply

      entry_spoken : (e : Entry) → IsGood e → All (IsShort names) (entry_phrases e) → All IsSpoken (entry_phrases e)
      entry_spoken e good short =
          All-cons IsSpoken (Sentence (Command e.command)) (reply_phrases e.reply)
          (sentence_spoken (Command e.command) good.0
          (All-head (IsShort names) (Sentence (Command e.command)) (reply_phrases e.reply) short))
          (reply_spoken e.reply good.1
          (All-tail (IsShort names) (Sentence (Command e.command)) (reply_phrases e.reply) short))

      pub entries_spoken :
          (es : List Entry) → All IsGood es → All (IsShort names) (flat_map entry_phrases es) →
          All IsSpoken (flat_map entry_phrases es)
      entries_spoken [] good short = All-nil IsSpoken
      entries_spoken (e ∷ es) good short =
          let rest = flat_map entry_phrases es in
          All-append IsSpoken (entry_phrases e) rest
          (entry_spoken e (All-head IsGood e es good) (front_holds (IsShort names) (entry_phrases e) rest short))
          (entries_spoken es (All-tail IsGood e es good) (rest_holds (IsShort names) (entry_phrases e) rest short))

      -- ---- values

      if_defined : (v : Option Value) → IfSome v (IsAsDeclared names declared) → IsIfDefined names declared v
      if_defined None h = tt
      if_defined (Some v) h = h

      values : (a : Answer) → EachValue (IsAsDeclared names declared) a → HasValues names declared a
      values (Single v) h = if_defined v h
      values (Rows rows) h =
          All-weaker
          (λ row. IfSome row.0 (IsAsDeclared names declared) × IfSome row.1 (IsAsDeclared names declared))
          (λ row. IsIfDefined names declared row.0 × IsIfDefined names declared row.1)
          (λ row k. (if_defined row.0 k.0, if_defined row.1 k.1)) rows h

      total_of : (t : Option (Option Value)) → EachTotal (IsAsDeclared names declared) t → HasTotal names declared t
      total_of None h = tt
      total_of (Some v) h = if_defined v h

      pub replied : (r : Reply) → CanWriteReply names declared r → HasReplied names declared r
      replied (Reply.Late day) can = can
      replied (Reply.Answered a) can = values a can
      replied (Reply.Folio rows total) can = (
        All-weaker (λ row. IsListed names row.0 × EachValue (IsAsDeclared names declared) row.1)
            (λ row. HasValues names declared row.1) (λ row h. values row.1 h.1) rows can.0,
        total_of total can.1,
      )
      replied r can = tt
