-- What the text of a statement is: that statement.
use Rattle.std.proofs.Common.{◌≡◌, ℕ, List, [], ◌∷◌, ◌++◌, Option, Some, None, refl, ap, ◌∙◌, ◌<◌, ◌^◌, subst, append_assoc}
use Rattle.std.specs.Prelude.{All, codes}
use Rattle.std.proofs.lemmas.List.{append-nil}
use Rattle.poets_value.specs.declared.value.Name.{Name}
use Rattle.poets_value.specs.declared.value.Ty.{Ty}
use Rattle.poets_value.specs.declared.value.Ty.TheVariants as T
use Rattle.poets_expr.specs.Expression.{Expression}
use Rattle.poets_expr.specs.Whole.{IsWholeExpression}
use Rattle.poets_syntax.specs.declared.term.Param.{Param}
use Rattle.poets_command.specs.Said as said
use Rattle.poets_command.specs.Said.{Statement}
use Rattle.poets_command.specs.Plain as plain
use Rattle.poets_command.specs.Taken.{IsWholeCommand}
use Rattle.poets_lex.specs.declared.token.Word.{Word}
use Rattle.poets_lex.specs.declared.token.Word.TheVariants as W
use Rattle.poets_lex.specs.declared.token.Sign.TheVariants as S
use Rattle.poets_lex.specs.declared.token.Tok.{Tok}
use Rattle.poets_lex.specs.declared.token.Tok.TheVariants as K
use Rattle.poets_lex.specs.Texts.{word_text}
use Rattle.poets_lex.specs.Table.{Table, IsTable}
use Rattle.poets_lex.proofs.CutTexts.{IsCutInto, cut_end, cut_space, cut_word, cut_name, cut_number, cut_sign, cut_spaced}
use Rattle.poets_lex.proofs.OneWay.{one-reading}
use Rattle.poets_grammar.specs.Tokens.{toks, type_of}
use Rattle.poets_grammar.specs.Lists.{ReadsList, ReadsName, ReadsNames}
use Rattle.poets_grammar.specs.ContractGrammar.{ReadsBinders}
use Rattle.poets_grammar.specs.Statements.{IsStatement, IsCommand, IsStep, ReadsParameter, ReadsParameters}
use Rattle.poets_print.specs.Texts.{name_text, type_text, expression_text, binders_text, contract_text}
use Rattle.poets_print.specs.Lines.{command_text}
use Rattle.poets_print.specs.Laws.{IsListed, CanWrite, CanWriteCommand}
use Rattle.poets_print.proofs.Writing.{IsTextOf, Writes, writes_in_brackets}
use Rattle.poets_print.proofs.WritingExpressions.{writes_expression}
use Rattle.poets_print.proofs.WritingContracts.{writes_names, writes_contract}
use Rattle.poets_print.proofs.WritingCommands.{command_reads_back}
use Rattle.poets_printed.proofs.WrittenCommands.{written_command}
use Rattle.poets_printed.proofs.WrittenCommandTexts.{cut_command}
use Rattle.poets_books.specs.Statements.{parameter_text, parameters_text, key_text, fold_text, statement_text}
use Rattle.poets_books.specs.Laws.{CanWriteKey, IsWholeKey, CanWriteTemplate, CanWriteReport, CanWriteStatement}
use Rattle.poets_books.specs.Laws.{IsWholeStatement, StatementReadsBack}

-- the word of a type
type_word : (t : Ty) → (w : Word) × (type_text t ≡ word_text w) × (type_of w ≡ Some t)
type_word T.Int = (W.IntType, refl, refl)
type_word T.Bool = (W.BoolType, refl, refl)
type_word T.Agent = (W.AgentType, refl, refl)
type_word T.Kind = (W.KindType, refl, refl)
type_word T.Resource = (W.ResourceType, refl, refl)
type_word T.Day = (W.DayType, refl, refl)

-- a statement without a number is its command
command_said : {ts : List Tok} {command : plain.Command} → IsStatement ts (said.Command command) → IsCommand ts command
command_said (IsStatement.Command r) = r

-- the four names of binders
four :
    {s r w d : Name} {ts rest : List Tok} → ReadsNames ts (s ∷ r ∷ w ∷ d ∷ []) rest →
    ReadsBinders ts (record { sender = s; receiver = r; what = w; day = d }) rest
four (ReadsList.More ReadsName.AName
    (ReadsList.More ReadsName.AName (ReadsList.More ReadsName.AName (ReadsList.One ReadsName.AName)))) =
    ReadsBinders.Four
four (ReadsList.More ReadsName.AName
    (ReadsList.More ReadsName.AName (ReadsList.More ReadsName.AName (ReadsList.More _ none)))) = elim none [ ]

-- the tokens are a statement, and nothing is after
States : List Tok → Statement → List Tok → Type 0
States ts statement rest = IsStatement ts statement

-- the tokens are a step with its key, and nothing is after
Steps : List Tok → Expression × Option Expression → List Tok → Type 0
Steps ts step rest = IsStep ts step.0 step.1

-- the pieces of a text, one after the other
template_shape :
    (t x p q c rest : List ℕ) →
    (t ++ x ++ p ++ q ++ c) ++ rest ≡ t ++ (x ++ (p ++ (q ++ (c ++ rest))))
template_shape t x p q c rest = simp append_assoc

report_shape :
    (t x p c y q f rest : List ℕ) →
    (t ++ x ++ p ++ c ++ y ++ q ++ f) ++ rest
    ≡ t ++ (x ++ (p ++ (c ++ (y ++ (q ++ (f ++ rest))))))
report_shape t x p c y q f rest = simp append_assoc

fold_shape :
    (f x q s w b i e k rest : List ℕ) →
    (f ++ x ++ q ++ s ++ w ++ b ++ i ++ e ++ k) ++ rest
    ≡ f ++ (x ++ (q ++ (s ++ (w ++ (b ++ (i ++ (e ++ (k ++ rest))))))))
fold_shape f x q s w b i e k rest = simp append_assoc

module _ (table : Table) (all : IsTable table) where
  writes_parameter : (p : Param) → IsListed table p.name → Writes table ReadsParameter (parameter_text table p) p
  writes_parameter p known rest behind cut end =
      let w = type_word p.ty in
      rw w.1 (simp append_assoc (record {
        tokens = _;
        cut = cut_name p.name all known (cut_sign S.Colon refl (cut_space (cut_word w.0 cut end))) refl;
        reads = ReadsParameter.Typed w.2;
      }))

  writes_parameters :
      (params : List Param) → All (λ p. IsListed table p.name) params →
      Writes table ReadsParameters (parameters_text table params) params
  writes_parameters =
      writes_in_brackets table ReadsParameter (parameter_text table) (λ p. IsListed table p.name) writes_parameter

  writes_step :
      (step : Expression) (key : Option Expression) → IsWholeExpression step → IsWholeKey key → CanWrite table step →
      CanWriteKey table key →
      IsTextOf table Steps (expression_text table step ++ (key_text table key ++ [])) (step, key) []
  unfolding Steps
  writes_step step None whole w can k =
      let p = writes_expression table all step whole can [] [] cut_end tt in
      record { tokens = _; cut = p.cut; reads = IsStep.WithoutKey p.reads }
  writes_step step (Some key) whole w can k =
      let by = writes_expression table all key w k [] [] cut_end tt in
      let behind = cut_space (cut_word W.By (cut_space by.cut) refl) in
      let p = writes_expression table all step whole can _ _ behind refl in
      record { tokens = _; cut = p.cut; reads = IsStep.WithKey p.reads by.reads }

  writes_template :
      (t : plain.Template) → IsWholeStatement (said.Template t) → CanWriteTemplate table t →
      IsTextOf table States (statement_text table (said.Template t) ++ []) (said.Template t) []
  unfolding States
  writes_template t whole can =
      let body = writes_contract table all t.body whole can.body [] [] cut_end tt in
      let params = writes_parameters t.params can.params _ _ (cut_space (cut_spaced S.Equal body.cut)) refl in
      rw (template_shape (codes "template ") (name_text table t.name) (parameters_text table t.params) (codes " = ")
      (contract_text table t.body) [])
      (record {
        tokens = _;
        cut = cut_word W.Template (cut_space (cut_name t.name all can.name params.cut refl)) refl;
        reads = IsStatement.Template params.reads body.reads;
      })

  writes_report :
      (q : plain.Report) → IsWholeStatement (said.Report q) → CanWriteReport table q →
      IsTextOf table States (statement_text table (said.Report q) ++ []) (said.Report q) []
  unfolding States Steps
  writes_report q whole can =
      let w = type_word q.ty in
      let b = q.binders in
      let step = writes_step q.step q.key whole.1 whole.2 can.step can.key in
      let binders = writes_names table all b.sender (b.receiver ∷ b.what ∷ b.day ∷ []) can.binders _ _
      (cut_sign S.RightParen refl (cut_space (cut_word W.In (cut_space step.cut) refl))) refl in
      let start = writes_expression table all q.start whole.0 can.start _ _
      (cut_space (cut_word W.With (cut_space (cut_sign S.LeftParen refl binders.cut)) refl)) refl in
      let equal = cut_space (cut_spaced S.Equal start.cut) in
      let inner = cut_word W.Fold (cut_space (cut_name q.carry all can.carry equal refl)) refl in
      let fold :
      IsCutInto table (fold_text table q ++ []) (K.Word W.Fold ∷ K.Name q.carry ∷ K.Sign S.Equal ∷ start.tokens) =
      rw (fold_shape (codes "fold ") (name_text table q.carry) (codes " = ") (expression_text table q.start)
      (codes " with (") (binders_text table b) (codes ") in ") (expression_text table q.step) (key_text table q.key) [])
      inner in
      let params = writes_parameters q.params can.params _ _
      (cut_sign S.Colon refl (cut_space (cut_word w.0 (cut_space (cut_spaced S.Equal fold)) refl))) refl in
      rw (report_shape (codes "report ") (name_text table q.name) (parameters_text table q.params) (codes ": ")
      (type_text q.ty) (codes " = ") (fold_text table q) [])
      (rw w.1 (record {
        tokens = _;
        cut = cut_word W.Report (cut_space (cut_name q.name all can.name params.cut refl)) refl;
        reads = IsStatement.Report params.reads w.2 start.reads (four binders.reads) step.reads;
      }))

  cut_whole :
      (command : plain.Command) → IsWholeCommand command → CanWriteCommand table command →
      IsCutInto table (command_text table command) (written_command command)
  cut_whole command whole can = rw append-nil at (cut_command table all command whole can)

  -- the written tokens are the command, since its text has one list of tokens
  written_reads :
      (command : plain.Command) → IsWholeCommand command → CanWriteCommand table command →
      IsCommand (written_command command) command
  written_reads command whole can =
      let cut = (cut_whole command whole can).at 0 in
      let back = command_reads_back table command all whole can in
      let one = one-reading table (command_text table command) 0 back.0 cut.0 table table back.1 cut.1 in
      let same : toks back.0 ≡ written_command command = ap toks one.0 ∙ cut.2 in
      command_said (subst (λ (ts : List Tok). IsStatement ts (said.Command command)) same back.2)

  writes_numbered :
      (clerk : ℕ) (command : plain.Command) → clerk < 2 ^ 63 → IsWholeCommand command → CanWriteCommand table command →
      IsTextOf table States (statement_text table (said.Numbered clerk command) ++ []) (said.Numbered clerk command) []
  unfolding States
  writes_numbered clerk command low whole can =
      let behind = cut_sign S.Colon refl (cut_space (cut_command table all command whole can)) in
      simp append_assoc (record {
        tokens = _;
        cut = cut_number clerk low behind refl;
        reads = IsStatement.Numbered (written_reads command whole can);
      })

  writes_statement :
      (statement : Statement) → IsWholeStatement statement → CanWriteStatement table statement →
      IsTextOf table States (statement_text table statement ++ []) statement []
  unfolding States
  writes_statement (said.Agents []) whole can = absurd (can.1 refl)
  writes_statement (said.Agents (x ∷ xs)) whole can =
      let p = writes_names table all x xs can.0 [] [] cut_end tt in
      record { tokens = _; cut = cut_word W.Agents (cut_space p.cut) refl; reads = IsStatement.Agents p.reads }
  writes_statement (said.Kinds []) whole can = absurd (can.1 refl)
  writes_statement (said.Kinds (x ∷ xs)) whole can =
      let p = writes_names table all x xs can.0 [] [] cut_end tt in
      record { tokens = _; cut = cut_word W.Kinds (cut_space p.cut) refl; reads = IsStatement.Kinds p.reads }
  writes_statement (said.Template t) whole can = writes_template t whole can
  writes_statement (said.Report q) whole can = writes_report q whole can
  writes_statement said.Clerk whole can =
      record { tokens = _; cut = cut_word W.Clerk cut_end tt; reads = IsStatement.Clerk }
  writes_statement said.Journal whole can =
      record { tokens = _; cut = cut_word W.Journal cut_end tt; reads = IsStatement.Journal }
  writes_statement (said.Command c) whole can = record {
    tokens = written_command c;
    cut = cut_command table all c whole can;
    reads = IsStatement.Command (written_reads c whole can);
  }
  writes_statement (said.Numbered clerk c) whole can = writes_numbered clerk c can.0 whole can.1

pub statement_reads_back : StatementReadsBack
unfolding States
statement_reads_back names statement all whole can =
    let p = writes_statement names all statement whole can in
    let read = (rw append-nil at p.cut).at 0 in
    (read.0, read.1, rw read.2 p.reads)
