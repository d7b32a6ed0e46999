-- The readers of statements: what they read is a statement, and where they stop nothing else can stand.
use Rattle.std.proofs.Common.{◌≡◌, ℕ, suc, ◌<◌, List, [], ◌∷◌, length, Option, Some, None, Ok, Err, pos, refl, subst, arith}
use Rattle.poets_value.specs.declared.value.Name.{Name}
use Rattle.poets_value.specs.declared.value.Ty.{Ty}
use Rattle.poets_expr.specs.Expression.{Expression}
use Rattle.poets_syntax.specs.declared.term.Binders.{Binders}
use Rattle.poets_syntax.specs.declared.term.Param.{Param}
use Rattle.poets_command.specs.Plain as plain
use Rattle.poets_command.specs.Plain.{Command}
use Rattle.poets_command.specs.Said as said
use Rattle.poets_command.specs.Said.{Statement}
use Rattle.poets_lex.specs.declared.token.Word.{Word}
use Rattle.poets_lex.specs.declared.token.Word.TheVariants as W
use Rattle.poets_lex.specs.declared.token.Sign.TheVariants as S
use Rattle.poets_lex.specs.declared.token.Tok.{Tok}
use Rattle.poets_lex.specs.declared.token.Tok.TheVariants as K
use Rattle.poets_grammar.specs.Tokens.{type_of}
use Rattle.poets_grammar.specs.Lists.{ReadsNames}
use Rattle.poets_grammar.specs.Expressions.{ReadsExpression, Disjunction, ReadsArguments}
use Rattle.poets_grammar.specs.ContractGrammar.{ReadsBinders}
use Rattle.poets_grammar.specs.Statements.{ReadsParameter, ReadsParameters, IsStep, IsCommand, IsStatement}
use Rattle.poets_grammar.specs.Reading.{Answer, ◌>>=◌, behind_word, sign, whole, whole_expression}
use Rattle.poets_grammar.specs.StatementReading.{last_day, last_name, whole_names, parameter, parameters, whole_arguments, register, transmission, withdrawal, tally, portfolio, watch, read_watch, command_word, command, template, report_head, report_start, report_binders, report_key, report_step, report, commanded, numbered, statement}
use Rattle.poets_grammar.proofs.Readers.{fronts, wholes, Fuel, Outcome, IsReader, Branch, followed, done, takes, like_end, like_token, begins_token, remade_whole}
use Rattle.poets_grammar.proofs.TokenReaders.{lasts, by_token, behind_the_sign, behind_the_word, behind_name, behind_number, behind_natural, behind_type, ended}
use Rattle.poets_grammar.proofs.Listed.{IsItem, listed_reader, bracketed_reader}
use Rattle.poets_grammar.proofs.ExpressionReaders.{expression_reader}
use Rattle.poets_grammar.proofs.Complete.{whole_expression_reader}
use Rattle.poets_grammar.proofs.Items.{Anything, names}
use Rattle.poets_grammar.proofs.ContractReaders.{binders_reader, arguments_reader}
use Rattle.poets_grammar.proofs.ContractComplete.{whole_contract_reader}

-- ---- parameters

pub parameter_reader : {I : Type 0} {fuel : Fuel I} (n : ℕ) → IsReader n fuel fronts ReadsParameter (λ i us. parameter us)
unfolding parameter
parameter_reader n = behind_name _ (λ x. behind_the_sign S.Colon (behind_type _ (λ w t e. done (record { name = x; ty = t }) (λ more. ReadsParameter.Typed e) (λ more. tt))))

pub parameter_complete : {ts rest : List Tok} {p : Param} → ReadsParameter ts p rest → parameter ts ≡ Ok (p, rest)
unfolding parameter
parameter_complete (ReadsParameter.Typed j) = rw j refl

parameter_shorter : {ts rest : List Tok} {p : Param} → ReadsParameter ts p rest → length rest < length ts
parameter_shorter (ReadsParameter.Typed j) = omega arith

no_parameter : (ts : List Tok) → parameter (K.Sign S.RightParen ∷ ts) ≡ Err (suc (length ts))
unfolding parameter
no_parameter ts = refl

pub parameter_items : IsItem parameter ReadsParameter Anything
parameter_items = record {
  reads = parameter_reader;
  complete = λ ts rest p r s. parameter_complete r;
  shorter = λ ts rest p r. parameter_shorter r;
  no_paren = no_parameter;
  at_comma = λ ts. tt;
  at_paren = λ ts. tt;
}

-- ---- parts up to the end

module _ {I : Type 0} {fuel : Fuel I} {n : ℕ} where
  parameters_reader : IsReader n fuel fronts ReadsParameters (λ i us. parameters us)
  unfolding parameters
  parameters_reader = bracketed_reader parameter_items n

  whole_names_reader : IsReader n fuel wholes (λ us xs rest. ReadsNames us xs []) (λ i us. whole_names us)
  unfolding whole_names
  whole_names_reader = followed _ (listed_reader names n) (λ xs. ended xs (λ us l. l))

  whole_arguments_reader : IsReader n fuel wholes (λ us args rest. ReadsArguments us args []) (λ i us. whole_arguments us)
  unfolding whole_arguments
  whole_arguments_reader = followed _ arguments_reader (λ args. ended args (λ us a. a))

  last_day_reader : IsReader n fuel wholes (λ us d rest. us ≡ K.Day d ∷ []) (λ i us. last_day us)
  last_day_reader = by_token (record { more = K.Day (pos 0) ∷ []; value = pos 0; is = λ rest e. rw e refl }) (λ i. refl) branch
    where
      branch : (t : Tok) → Branch n fuel wholes (λ us d rest. us ≡ K.Day d ∷ []) (λ i us. last_day us) t
      branch (K.Day d) = Branch.Takes (λ i us. whole d us) (λ i us. refl) (ended d refl)
      branch _ = Branch.GivesUp (λ i us. refl)

  last_name_reader : IsReader n fuel wholes (λ us x rest. us ≡ K.Name x ∷ []) (λ i us. last_name us)
  last_name_reader = by_token (record { more = K.Name (record { id = 0 }) ∷ []; value = record { id = 0 }; is = λ rest e. rw e refl }) (λ i. refl) branch
    where
      branch : (t : Tok) → Branch n fuel wholes (λ us x rest. us ≡ K.Name x ∷ []) (λ i us. last_name us) t
      branch (K.Name x) = Branch.Takes (λ i us. whole x us) (λ i us. refl) (ended x refl)
      branch _ = Branch.GivesUp (λ i us. refl)

-- ---- commands, after their words

-- the reader of what stands behind the word
abbrev Commands : {I : Type 0} → ℕ → Fuel I → Word → (List Tok → Answer Command) → Type 0
Commands n fuel w f = IsReader n fuel wholes (λ us c rest. IsCommand (K.Word w ∷ us) c) (λ i us. f us)

module _ {I : Type 0} {fuel : Fuel I} {n : ℕ} where
  register_reader : Commands n fuel W.Register register
  unfolding register
  register_reader = behind_name _ (λ x. behind_the_sign S.Equal (remade_whole (plain.Register x) (λ us rest c is. IsCommand.Register is) (whole_contract_reader n)))

  transmission_reader : Commands n fuel W.Transmit transmission
  unfolding transmission
  transmission_reader =
      behind_name _ (λ x. behind_name _ (λ sender. behind_name _ (λ receiver. behind_number _ (λ k. behind_name _ (λ kind.
      remade_whole (λ day. plain.Transmit x (record { sender = sender; receiver = receiver; what = record { kind = kind; amount = pos k }; day = day }))
      (λ us rest day e. rw e IsCommand.Transmit) last_day_reader)))))

  withdrawal_reader : Commands n fuel W.Void withdrawal
  unfolding withdrawal
  withdrawal_reader = behind_name _ (λ x. behind_natural _ (λ k. ended (plain.Void x k) IsCommand.Void))

  end_reader : Commands n fuel W.End (λ us. last_name us >>= λ x. Ok (plain.End x))
  end_reader = remade_whole plain.End (λ us rest x e. rw e IsCommand.End) last_name_reader

  show_reader : Commands n fuel W.Show (λ us. last_name us >>= λ x. Ok (plain.Show x))
  show_reader = remade_whole plain.Show (λ us rest x e. rw e IsCommand.Show) last_name_reader

  tally_reader : Commands n fuel W.Tally tally
  unfolding tally
  tally_reader = behind_name _ (λ q. remade_whole (plain.Tally q) (λ us rest args a. IsCommand.Tally a) whole_arguments_reader)

  portfolio_reader : Commands n fuel W.Portfolio portfolio
  unfolding portfolio
  portfolio_reader =
      behind_name _ (λ q. followed _ arguments_reader (λ args. behind_the_word W.Over
      (remade_whole (plain.Portfolio q args) (λ us rest over l ws a. IsCommand.Portfolio a l) whole_names_reader)))

  watch_reader : Commands n fuel W.Watch watch
  unfolding watch
  watch_reader = behind_name _ (λ q. remade_whole (plain.Watch q) (λ us rest args a. IsCommand.Watch a) whole_arguments_reader)

  read_watch_reader : Commands n fuel W.Read read_watch
  unfolding read_watch
  read_watch_reader = behind_natural _ (λ k. ended (plain.Read k) IsCommand.Read)

  command_branch : (t : Tok) → Branch n fuel wholes (λ us c rest. IsCommand us c) (λ i us. command us) t
  unfolding command
  command_branch (K.Word W.Register) = Branch.Takes (λ i us. register us) (λ i us. refl) register_reader
  command_branch (K.Word W.Transmit) = Branch.Takes (λ i us. transmission us) (λ i us. refl) transmission_reader
  command_branch (K.Word W.Void) = Branch.Takes (λ i us. withdrawal us) (λ i us. refl) withdrawal_reader
  command_branch (K.Word W.End) = Branch.Takes (λ i us. last_name us >>= λ x. Ok (plain.End x)) (λ i us. refl) end_reader
  command_branch (K.Word W.Show) = Branch.Takes (λ i us. last_name us >>= λ x. Ok (plain.Show x)) (λ i us. refl) show_reader
  command_branch (K.Word W.Tally) = Branch.Takes (λ i us. tally us) (λ i us. refl) tally_reader
  command_branch (K.Word W.Portfolio) = Branch.Takes (λ i us. portfolio us) (λ i us. refl) portfolio_reader
  command_branch (K.Word W.Watch) = Branch.Takes (λ i us. watch us) (λ i us. refl) watch_reader
  command_branch (K.Word W.Read) = Branch.Takes (λ i us. read_watch us) (λ i us. refl) read_watch_reader
  command_branch _ = Branch.GivesUp (λ i us. refl)

  command_reader : IsReader n fuel wholes (λ us c rest. IsCommand us c) (λ i us. command us)
  unfolding command
  command_reader = by_token (begins_token (K.Word W.Show) show_reader.some) (λ i. refl) command_branch

-- ---- reports

-- the head of a report, up to `fold`
record IsHead (ts : List Tok) (head : Name × List Param × Ty) (rest : List Tok) : Type 0 where
  inside : List Tok
  word : Word
  starts : ts ≡ K.Name head.0 ∷ inside
  params : ReadsParameters inside head.1 (K.Sign S.Colon ∷ K.Word word ∷ K.Sign S.Equal ∷ rest)
  ty : type_of word ≡ Some head.2

-- the start of a report, up to `with`
record IsStart (ts : List Tok) (start : Name × Expression) (rest : List Tok) : Type 0 where
  inside : List Tok
  starts : ts ≡ K.Word W.Fold ∷ K.Name start.0 ∷ K.Sign S.Equal ∷ inside
  read : ReadsExpression Disjunction inside start.1 rest

-- the binders of a report, up to the step
record IsFolded (ts : List Tok) (bound : Binders) (rest : List Tok) : Type 0 where
  inside : List Tok
  starts : ts ≡ K.Word W.With ∷ K.Sign S.LeftParen ∷ inside
  binders : ReadsBinders inside bound (K.Sign S.RightParen ∷ K.Word W.In ∷ rest)

reported : {ts from_start from_binders from_step : List Tok} {head : Name × List Param × Ty} {start : Name × Expression} {bound : Binders} {step : Expression × Option Expression} →
    IsHead ts head from_start → IsStart from_start start from_binders → IsFolded from_binders bound from_step → IsStep from_step step.0 step.1 →
    IsStatement (K.Word W.Report ∷ ts) (said.Report (record {
      name = head.0;
      params = head.1;
      ty = head.2;
      start = start.1;
      carry = start.0;
      binders = bound;
      step = step.0;
      key = step.1;
    }))
reported {head = head} {start = start} h s b i =
    rw h.starts (IsStatement.Report
    (subst (λ x. ReadsParameters h.inside head.1 (K.Sign S.Colon ∷ K.Word h.word ∷ K.Sign S.Equal ∷ x)) s.starts h.params) h.ty
    (subst (λ x. ReadsExpression Disjunction s.inside start.1 x) b.starts s.read) b.binders i)

-- the step and its key, after the step
abbrev Keyed : Expression → List Tok → Expression × Option Expression → List Tok → Type 0
Keyed step us p rest = (ws : List Tok) → ReadsExpression Disjunction ws step us → IsStep ws p.0 p.1

module _ {I : Type 0} {fuel : Fuel I} {n : ℕ} where
  report_head_reader : IsReader n fuel fronts IsHead (λ i us. report_head us)
  unfolding report_head
  report_head_reader =
      behind_name _ (λ q. followed _ parameters_reader (λ params. behind_the_sign S.Colon (behind_type _ (λ w t e. behind_the_sign S.Equal
      (done (q, params, t) (λ more us l. record { inside = us; word = w; starts = refl; params = l; ty = e }) (λ more. tt))))))

  report_start_reader : IsReader n fuel fronts IsStart (λ i us. report_start us)
  unfolding report_start
  report_start_reader =
      behind_the_word W.Fold (behind_name _ (λ carry. behind_the_sign S.Equal (followed _ (expression_reader n) (λ start.
      done (carry, start) (λ more us r. record { inside = us; starts = refl; read = r }) (λ more. tt)))))

  report_binders_reader : IsReader n fuel fronts IsFolded (λ i us. report_binders us)
  unfolding report_binders
  report_binders_reader =
      behind_the_word W.With (behind_the_sign S.LeftParen (followed _ binders_reader (λ bound. behind_the_sign S.RightParen (behind_the_word W.In
      (done bound (λ more us b. record { inside = us; starts = refl; binders = b }) (λ more. tt))))))

  no_key_reader : (step : Expression) → IsReader n fuel wholes (Keyed step) (λ i us. whole (step, None) us)
  no_key_reader step = ended (step, None) (λ ws r. IsStep.WithoutKey r)

  key_reader : (step : Expression) → IsReader n fuel wholes (λ us p rest. Keyed step (K.Word W.By ∷ us) p rest) (λ i us. whole_expression us >>= λ key. Ok (step, Some key))
  key_reader step = remade_whole (λ key. (step, Some key)) (λ us rest key k ws r. IsStep.WithKey r k) (whole_expression_reader n)

  report_key_reader : (step : Expression) → IsReader n fuel wholes (Keyed step) (λ i us. report_key step us (behind_word W.By us))
  report_key_reader step = record { reads = outcome; some = (no_key_reader step).some }
    where
      outcome : (ts : List Tok) → length ts < n → Outcome fuel wholes (Keyed step) (λ i us. report_key step us (behind_word W.By us)) ts
      outcome (K.Word W.By ∷ ts) lt = takes (K.Word W.By) ts (λ i us l. refl) (lasts fuel) ((key_reader step).reads ts (omega arith))
      outcome [] lt = like_end (λ i. refl) ((no_key_reader step).reads [] lt)
      outcome (t ∷ ts) lt = like_token (λ i us. refl) ((no_key_reader step).reads (t ∷ ts) lt)

  report_step_reader : IsReader n fuel wholes (λ us p rest. IsStep us p.0 p.1) (λ i us. report_step us)
  unfolding report_step
  report_step_reader = followed (λ i step. report_key step.0 step.1 (behind_word W.By step.1)) (expression_reader n) report_key_reader

-- ---- statements, after their words

-- the reader of what stands behind the word
abbrev Statements : {I : Type 0} → ℕ → Fuel I → Word → (List Tok → Answer Statement) → Type 0
Statements n fuel w f = IsReader n fuel wholes (λ us s rest. IsStatement (K.Word w ∷ us) s) (λ i us. f us)

abbrev StatementBranch : {I : Type 0} → ℕ → Fuel I → Tok → Type 0
StatementBranch n fuel t = Branch n fuel wholes (λ us s rest. IsStatement us s) (λ i us. statement us) t

module _ {I : Type 0} {fuel : Fuel I} {n : ℕ} where
  agents_reader : Statements n fuel W.Agents (λ us. whole_names us >>= λ xs. Ok (said.Agents xs))
  agents_reader = remade_whole said.Agents (λ us rest xs l. IsStatement.Agents l) whole_names_reader

  kinds_reader : Statements n fuel W.Kinds (λ us. whole_names us >>= λ xs. Ok (said.Kinds xs))
  kinds_reader = remade_whole said.Kinds (λ us rest xs l. IsStatement.Kinds l) whole_names_reader

  template_reader : Statements n fuel W.Template template
  unfolding template
  template_reader =
      behind_name _ (λ f. followed _ parameters_reader (λ params. behind_the_sign S.Equal
      (remade_whole (λ body. said.Template (record { name = f; params = params; body = body })) (λ us rest body c ws l. IsStatement.Template l c) (whole_contract_reader n))))

  report_reader : Statements n fuel W.Report report
  unfolding report
  report_reader =
      followed _ report_head_reader (λ head. followed _ report_start_reader (λ start. followed _ report_binders_reader (λ bound.
      remade_whole (λ step. said.Report (record {
        name = head.0;
        params = head.1;
        ty = head.2;
        start = start.1;
        carry = start.0;
        binders = bound;
        step = step.0;
        key = step.1;
      }))
      (λ us rest step i ws b vs s xs h. reported h s b i) report_step_reader)))

  commanded_reader : (w : Word) (f : List Tok → Answer Command) → IsReader n fuel wholes (λ us c rest. IsCommand (K.Word w ∷ us) c) (λ i us. f us) → Statements n fuel w (λ us. commanded (f us))
  commanded_reader w f h = remade_whole said.Command (λ us rest c is. IsStatement.Command is) h

  word_branch : (w : Word) → StatementBranch n fuel (K.Word w)
  unfolding statement
  word_branch W.Agents = Branch.Takes (λ i us. whole_names us >>= λ xs. Ok (said.Agents xs)) (λ i us. refl) agents_reader
  word_branch W.Kinds = Branch.Takes (λ i us. whole_names us >>= λ xs. Ok (said.Kinds xs)) (λ i us. refl) kinds_reader
  word_branch W.Template = Branch.Takes (λ i us. template us) (λ i us. refl) template_reader
  word_branch W.Report = Branch.Takes (λ i us. report us) (λ i us. refl) report_reader
  word_branch W.Clerk = Branch.Takes (λ i us. whole said.Clerk us) (λ i us. refl) (ended said.Clerk IsStatement.Clerk)
  word_branch W.Journal = Branch.Takes (λ i us. whole said.Journal us) (λ i us. refl) (ended said.Journal IsStatement.Journal)
  word_branch W.Register = Branch.Takes (λ i us. commanded (register us)) (λ i us. refl) (commanded_reader W.Register register register_reader)
  word_branch W.Transmit = Branch.Takes (λ i us. commanded (transmission us)) (λ i us. refl) (commanded_reader W.Transmit transmission transmission_reader)
  word_branch W.Void = Branch.Takes (λ i us. commanded (withdrawal us)) (λ i us. refl) (commanded_reader W.Void withdrawal withdrawal_reader)
  word_branch W.End = Branch.Takes (λ i us. commanded (command_word W.End us)) (λ i us. refl) (commanded_reader W.End (λ us. command_word W.End us) end_reader)
  word_branch W.Show = Branch.Takes (λ i us. commanded (command_word W.Show us)) (λ i us. refl) (commanded_reader W.Show (λ us. command_word W.Show us) show_reader)
  word_branch W.Tally = Branch.Takes (λ i us. commanded (tally us)) (λ i us. refl) (commanded_reader W.Tally tally tally_reader)
  word_branch W.Portfolio = Branch.Takes (λ i us. commanded (portfolio us)) (λ i us. refl) (commanded_reader W.Portfolio portfolio portfolio_reader)
  word_branch W.Watch = Branch.Takes (λ i us. commanded (watch us)) (λ i us. refl) (commanded_reader W.Watch watch watch_reader)
  word_branch W.Read = Branch.Takes (λ i us. commanded (read_watch us)) (λ i us. refl) (commanded_reader W.Read read_watch read_watch_reader)
  word_branch _ = Branch.GivesUp (λ i us. refl)

  statement_branch : (t : Tok) → StatementBranch n fuel t
  unfolding statement numbered
  statement_branch (K.Word w) = word_branch w
  statement_branch (K.Number (pos k)) =
      Branch.Takes (λ i us. sign S.Colon us >>= λ a. command a >>= λ c. Ok (said.Numbered k c)) (λ i us. refl)
      (behind_the_sign S.Colon (remade_whole (said.Numbered k) (λ us rest c is. IsStatement.Numbered is) command_reader))
  statement_branch _ = Branch.GivesUp (λ i us. refl)

  pub statement_reader : IsReader n fuel wholes (λ us s rest. IsStatement us s) (λ i us. statement us)
  unfolding statement
  statement_reader = by_token (record { more = K.Word W.Clerk ∷ []; value = said.Clerk; is = λ rest e. rw e IsStatement.Clerk }) (λ i. refl) statement_branch
