-- Statements read by functions on lists. Statements.antt says what a statement is; that both agree
-- is proved.
use Rattle.std.specs.Prelude.{ℕ, List, ◌∷◌, Option, Some, None, Ok, ℤ, pos}
use Rattle.poets_value.specs.declared.value.Name.{Name}
use Rattle.poets_value.specs.declared.value.Ty.{Ty}
use Rattle.poets_expr.specs.Expression.{Expression}
use Rattle.poets_syntax.specs.declared.term.Binders.{Binders}
use Rattle.poets_syntax.specs.declared.term.Param.{Param}
use Rattle.poets_command.specs.Plain.{Register, Transmit, Void, End, Show, Tally, Portfolio, Watch}
use Rattle.poets_command.specs.Plain.{Read}
use Rattle.poets_command.specs.Said.{Statement, Agents, Kinds, Template, Report, Clerk, Journal}
use Rattle.poets_command.specs.Said.{Command, Numbered}
use Rattle.poets_command.specs.Plain as plain
use Rattle.poets_lex.specs.declared.token.Word.{Word}
use Rattle.poets_lex.specs.declared.token.Word.TheVariants as W
use Rattle.poets_lex.specs.declared.token.Sign.TheVariants as S
use Rattle.poets_lex.specs.declared.token.Tok.{Tok}
use Rattle.poets_lex.specs.declared.token.Tok.TheVariants as K
use Rattle.poets_grammar.specs.Reading.{Answer, Reading, ◌>>=◌, refused, refused_ahead, behind_word, sign, word}
use Rattle.poets_grammar.specs.Reading.{name, number, type_name, whole, listed, bracketed, expression, arguments}
use Rattle.poets_grammar.specs.Reading.{whole_expression}
use Rattle.poets_grammar.specs.ContractReading.{binders, whole_contract}

-- ---- parts

-- a NUMBER, as a natural number
abbrev pub natural : List Tok → Reading ℕ
natural (K.Number (pos n) ∷ ts) = Ok (n, ts)
natural ts = refused ts

-- the DAY that is the last token
abbrev pub last_day : List Tok → Answer ℤ
last_day (K.Day d ∷ ts) = whole d ts
last_day ts = refused ts

-- the NAME that is the last token
abbrev pub last_name : List Tok → Answer Name
last_name (K.Name x ∷ ts) = whole x ts
last_name ts = refused ts

-- names up to the end
unfoldable pub whole_names : List Tok → Answer (List Name)
whole_names ts = do
  names ← listed name ts
  whole names.0 names.1

-- NAME ":" type
unfoldable pub parameter : List Tok → Reading Param
parameter ts = do
  x ← name ts
  a ← sign S.Colon x.1
  t ← type_name a
  Ok (record { name = x.0; ty = t.0 }, t.1)

unfoldable pub parameters : List Tok → Reading (List Param)
parameters ts = bracketed parameter ts

-- arguments up to the end
unfoldable pub whole_arguments : List Tok → Answer (List Expression)
whole_arguments ts = do
  args ← arguments ts
  whole args.0 args.1

-- ---- commands, after their words

unfoldable pub register : List Tok → Answer plain.Command
register ts = do
  x ← name ts
  a ← sign S.Equal x.1
  c ← whole_contract a
  Ok (Register x.0 c)

unfoldable pub transmission : List Tok → Answer plain.Command
transmission ts = do
  x ← name ts
  sender ← name x.1
  receiver ← name sender.1
  n ← number receiver.1
  kind ← name n.1
  day ← last_day kind.1
  Ok (Transmit x.0
      (record { sender = sender.0; receiver = receiver.0; what = record { kind = kind.0; amount = n.0 }; day = day }))

unfoldable pub withdrawal : List Tok → Answer plain.Command
withdrawal ts = do
  x ← name ts
  n ← natural x.1
  whole (Void x.0 n.0) n.1

unfoldable pub tally : List Tok → Answer plain.Command
tally ts = do
  q ← name ts
  args ← whole_arguments q.1
  Ok (Tally q.0 args)

unfoldable pub portfolio : List Tok → Answer plain.Command
portfolio ts = do
  q ← name ts
  args ← arguments q.1
  a ← word W.Over args.1
  names ← whole_names a
  Ok (Portfolio q.0 args.0 names)

unfoldable pub watch : List Tok → Answer plain.Command
watch ts = do
  q ← name ts
  args ← whole_arguments q.1
  Ok (Watch q.0 args)

unfoldable pub read_watch : List Tok → Answer plain.Command
read_watch ts = do
  n ← natural ts
  whole (Read n.0) n.1

-- by the word that stands ahead of the tokens
abbrev pub command_word : Word → List Tok → Answer plain.Command
command_word W.Register ts = register ts
command_word W.Transmit ts = transmission ts
command_word W.Void ts = withdrawal ts
command_word W.End ts = last_name ts >>= λ x. Ok (End x)
command_word W.Show ts = last_name ts >>= λ x. Ok (Show x)
command_word W.Tally ts = tally ts
command_word W.Portfolio ts = portfolio ts
command_word W.Watch ts = watch ts
command_word W.Read ts = read_watch ts
command_word _ ts = refused_ahead ts

unfoldable pub command : List Tok → Answer plain.Command
command (K.Word w ∷ ts) = command_word w ts
command ts = refused ts

-- ---- statements, after their words

unfoldable pub template : List Tok → Answer Statement
template ts = do
  f ← name ts
  params ← parameters f.1
  a ← sign S.Equal params.1
  body ← whole_contract a
  Ok (Template (record { name = f.0; params = params.0; body = body }))

-- NAME "(" [ params ] ")" ":" type "="
unfoldable pub report_head : List Tok → Reading (Name × List Param × Ty)
report_head ts = do
  q ← name ts
  params ← parameters q.1
  a ← sign S.Colon params.1
  ty ← type_name a
  b ← sign S.Equal ty.1
  Ok ((q.0, params.0, ty.0), b)

-- "fold" NAME "=" expression
unfoldable pub report_start : List Tok → Reading (Name × Expression)
report_start ts = do
  a ← word W.Fold ts
  carry ← name a
  b ← sign S.Equal carry.1
  start ← expression b
  Ok ((carry.0, start.0), start.1)

-- "with" "(" NAME "," NAME "," NAME "," NAME ")" "in"
unfoldable pub report_binders : List Tok → Reading Binders
report_binders ts = do
  a ← word W.With ts
  b ← sign S.LeftParen a
  binders ← binders b
  c ← sign S.RightParen binders.1
  d ← word W.In c
  Ok (binders.0, d)

abbrev pub report_key : Expression → List Tok → Option (List Tok) → Answer (Expression × Option Expression)
report_key step ts None = whole (step, None) ts
report_key step ts (Some mid) = whole_expression mid >>= λ key. Ok (step, Some key)

-- expression [ "by" expression ]
unfoldable pub report_step : List Tok → Answer (Expression × Option Expression)
report_step ts = do
  step ← expression ts
  report_key step.0 step.1 (behind_word W.By step.1)

unfoldable pub report : List Tok → Answer Statement
report ts = do
  head ← report_head ts
  start ← report_start head.1
  binders ← report_binders start.1
  step ← report_step binders.1
  Ok (Report (record {
    name = head.0.0;
    params = head.0.1;
    ty = head.0.2;
    start = start.0.1;
    carry = start.0.0;
    binders = binders.0;
    step = step.0;
    key = step.1;
  }))

abbrev pub commanded : Answer plain.Command → Answer Statement
commanded r = r >>= λ made. Ok (Command made)

-- by the word that stands ahead of the tokens
abbrev pub statement_word : Word → List Tok → Answer Statement
statement_word W.Agents ts = whole_names ts >>= λ names. Ok (Agents names)
statement_word W.Kinds ts = whole_names ts >>= λ names. Ok (Kinds names)
statement_word W.Template ts = template ts
statement_word W.Report ts = report ts
statement_word W.Clerk ts = whole Clerk ts
statement_word W.Journal ts = whole Journal ts
statement_word w ts = commanded (command_word w ts)

-- NUMBER ":" command
unfoldable pub numbered : List Tok → Answer Statement
numbered ts = do
  n ← natural ts
  a ← sign S.Colon n.1
  made ← command a
  Ok (Numbered n.0 made)

-- what the tokens say as a statement, or where they cease to begin one
unfoldable pub statement : List Tok → Answer Statement
statement (K.Word w ∷ ts) = statement_word w ts
statement (K.Number n ∷ ts) = numbered (K.Number n ∷ ts)
statement ts = refused ts
