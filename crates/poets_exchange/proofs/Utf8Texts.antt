-- Printed texts are in UTF-8.
use Rattle.std.proofs.Common.{◌≡◌, ◌<◌, ℕ, suc, List, [], ◌∷◌, ◌++◌, Bool, true, false, Option, Some, None, IsUtf8}
use Rattle.std.proofs.Common.{refl, arith, pos, negsuc, ℤ, slice_get}
use Rattle.std.specs.Prelude.{codes, unwrap_or}
use Rattle.std.specs.Bool.{IsTrue}
use Rattle.std.specs.Fmt.{signed_decimal, decimal}
use Rattle.std.proofs.lemmas.Bool.Decides.{nat_tests}
use Rattle.std.proofs.lemmas.Str.{IsUtf8-append, IsUtf8-from_ascii, IsUtf8-nil}
use Rattle.json.proofs.Printed.Utf8.{are_ascii, IsUtf8-are_ascii}
use Rattle.poets_value.specs.declared.value.Name.{Name}
use Rattle.poets_value.specs.declared.value.Ty.{Ty}
use Rattle.poets_value.specs.declared.value.Ty.TheVariants as T
use Rattle.poets_value.specs.declared.value.Value.{Value}
use Rattle.poets_value.specs.declared.value.Value.TheVariants as V
use Rattle.poets_value.specs.declared.event.Event.{Event}
use Rattle.poets_value.proofs.DayTexts.{day_text-utf8}
use Rattle.poets_expr.specs.Expression.{Expression, Minus, Not, AmountOf, KindOf, Literal, Undefined, Named, Unary}
use Rattle.poets_expr.specs.Expression.{Make, Binary, If}
use Rattle.poets_expr.specs.declared.expr.Op.{Op}
use Rattle.poets_expr.specs.declared.expr.Op.TheVariants as O
use Rattle.poets_syntax.specs.declared.term.Binders.{Binders}
use Rattle.poets_syntax.specs.declared.term.Param.{Param}
use Rattle.poets_syntax.specs.Contract.{Contract, Success, Failure, Transmit, Plus, Par, Seq, App}
use Rattle.poets_report.specs.Plain.{Template, Report}
use Rattle.poets_command.specs.Plain as plain
use Rattle.poets_command.specs.Said.{Statement, Agents, Kinds, Clerk, Journal, Command, Numbered}
use Rattle.poets_command.specs.Said as said
use Rattle.poets_lex.specs.Bytes.{begins_name}
use Rattle.poets_lex.specs.Table.{Table, IsTable, HasNameShape}
use Rattle.poets_lex.proofs.Fronts.{name-ascii}
use Rattle.poets_print.specs.Texts.{name_text, bracketed, behind_commas, listed, type_text, truth_text, value_text}
use Rattle.poets_print.specs.Texts.{op_text}
use Rattle.poets_print.specs.Texts.{expression_text, call_text, binders_text, contract_text}
use Rattle.poets_print.specs.Lines.{command_text, event_text}
use Rattle.poets_books.specs.Statements.{parameter_text, parameters_text, template_text, key_text, fold_text}
use Rattle.poets_books.specs.Statements.{report_text}
use Rattle.poets_books.specs.Statements.{statement_text}
use Rattle.poets_exchange.proofs.Json.{◌⊕◌, ascii_then, decimal_utf8}

-- a text that is known
pub known : (text : List ℕ) → are_ascii text ≡ true → IsUtf8 text
known text e = IsUtf8-are_ascii text e

first_small : (byte : ℕ) → IsTrue (begins_name byte) → byte < 128
first_small byte h = grind (arith, nat_tests)

shape_utf8 : (text : List ℕ) → HasNameShape text → IsUtf8 text
shape_utf8 [] h = absurd h
shape_utf8 (byte ∷ bytes) h =
    ascii_then byte bytes (first_small byte h.0) (IsUtf8-from_ascii bytes (name-ascii bytes h.1))

signed_utf8 : (z : ℤ) → IsUtf8 (signed_decimal z)
signed_utf8 (pos n) = decimal_utf8 n
signed_utf8 (negsuc n) = ascii_then 45 (decimal (suc n)) (omega arith) (decimal_utf8 (suc n))

type_utf8 : (t : Ty) → IsUtf8 (type_text t)
type_utf8 T.Int = known (codes "Int") refl
type_utf8 T.Bool = known (codes "Bool") refl
type_utf8 T.Agent = known (codes "Agent") refl
type_utf8 T.Kind = known (codes "Kind") refl
type_utf8 T.Resource = known (codes "Resource") refl
type_utf8 T.Day = known (codes "Day") refl

truth_utf8 : (b : Bool) → IsUtf8 (truth_text b)
truth_utf8 true = known (codes "true") refl
truth_utf8 false = known (codes "false") refl

op_utf8 : (o : Op) → IsUtf8 (op_text o)
op_utf8 O.Add = known (codes "+") refl
op_utf8 O.Sub = known (codes "-") refl
op_utf8 O.Mul = known (codes "*") refl
op_utf8 O.Div = known (codes "/") refl
op_utf8 O.Rem = known (codes "%") refl
op_utf8 O.Eq = known (codes "=") refl
op_utf8 O.Ne = known (codes "<>") refl
op_utf8 O.Lt = known (codes "<") refl
op_utf8 O.Le = known (codes "<=") refl
op_utf8 O.Gt = known (codes ">") refl
op_utf8 O.Ge = known (codes ">=") refl
op_utf8 O.And = known (codes "and") refl
op_utf8 O.Or = known (codes "or") refl

bracketed_utf8 : (b : Bool) (text : List ℕ) → IsUtf8 text → IsUtf8 (bracketed b text)
bracketed_utf8 true text h = known (codes "(") refl ⊕ h ⊕ known (codes ")") refl
bracketed_utf8 false text h = h

module _ {A : Type 0} (text_of : A → List ℕ) (each : (x : A) → IsUtf8 (text_of x)) where
  behind_commas_utf8 : (xs : List A) → IsUtf8 (behind_commas text_of xs)
  behind_commas_utf8 [] = IsUtf8-nil
  behind_commas_utf8 (x ∷ xs) =
      IsUtf8-append (codes ", " ++ text_of x) (behind_commas text_of xs) (known (codes ", ") refl ⊕ each x)
      (behind_commas_utf8 xs)

  listed_utf8 : (xs : List A) → IsUtf8 (listed text_of xs)
  listed_utf8 [] = IsUtf8-nil
  listed_utf8 (x ∷ xs) = each x ⊕ behind_commas_utf8 xs

module _ (names : Table) (table : IsTable names) where
  pub name_utf8 : (x : Name) → IsUtf8 (name_text names x)
  name_utf8 x = by_place (slice_get names x.id) refl
    where
      by_place : (o : Option (List ℕ)) → slice_get names x.id ≡ o → IsUtf8 (unwrap_or o [])
      by_place None e = IsUtf8-nil
      by_place (Some text) e = shape_utf8 text (table text x.id e).0.shape

  pub value_utf8 : (v : Value) → IsUtf8 (value_text names v)
  value_utf8 (V.Int z) = signed_utf8 z
  value_utf8 (V.Bool b) = truth_utf8 b
  value_utf8 (V.Agent x) = name_utf8 x
  value_utf8 (V.Kind x) = name_utf8 x
  value_utf8 (V.Resource r) =
      known (codes "[") refl ⊕ signed_utf8 r.amount ⊕ known (codes " ") refl ⊕ name_utf8 r.kind ⊕ known (codes "]") refl
  value_utf8 (V.Day d) = known (codes "@") refl ⊕ day_text-utf8 d

  expression_utf8 : (e : Expression) → IsUtf8 (expression_text names e)
  expression_utf8 (Literal v) = value_utf8 v
  expression_utf8 (Undefined t) = known (codes "undefined ") refl ⊕ type_utf8 t
  expression_utf8 (Named x) = name_utf8 x
  expression_utf8 (Unary Minus a) =
      known (codes "-") refl ⊕ bracketed_utf8 _ (expression_text names a) (expression_utf8 a)
  expression_utf8 (Unary Not a) =
      known (codes "not ") refl ⊕ bracketed_utf8 _ (expression_text names a) (expression_utf8 a)
  expression_utf8 (Unary AmountOf a) = known (codes "amount(") refl ⊕ expression_utf8 a ⊕ known (codes ")") refl
  expression_utf8 (Unary KindOf a) = known (codes "kind(") refl ⊕ expression_utf8 a ⊕ known (codes ")") refl
  expression_utf8 (Make a b) =
      known (codes "res(") refl ⊕ expression_utf8 a ⊕ known (codes ", ") refl ⊕ expression_utf8 b
      ⊕ known (codes ")") refl
  expression_utf8 (Binary o a b) =
      bracketed_utf8 _ (expression_text names a) (expression_utf8 a) ⊕ known (codes " ") refl ⊕ op_utf8 o
      ⊕ known (codes " ") refl ⊕ bracketed_utf8 _ (expression_text names b) (expression_utf8 b)
  expression_utf8 (If a b c) =
      known (codes "if ") refl ⊕ expression_utf8 a ⊕ known (codes " then ") refl ⊕ expression_utf8 b
      ⊕ known (codes " else ") refl ⊕ expression_utf8 c ⊕ known (codes " end") refl

  call_utf8 : (f : Name) (args : List Expression) → IsUtf8 (call_text names f args)
  call_utf8 f args =
      name_utf8 f ⊕ known (codes "(") refl ⊕ listed_utf8 (expression_text names) expression_utf8 args
      ⊕ known (codes ")") refl

  names_utf8 : (xs : List Name) → IsUtf8 (listed (name_text names) xs)
  names_utf8 xs = listed_utf8 (name_text names) name_utf8 xs

  binders_utf8 : (b : Binders) → IsUtf8 (binders_text names b)
  binders_utf8 b = names_utf8 (b.sender ∷ b.receiver ∷ b.what ∷ b.day ∷ [])

  pub contract_utf8 : (c : Contract) → IsUtf8 (contract_text names c)
  contract_utf8 Success = known (codes "Success") refl
  contract_utf8 Failure = known (codes "Failure") refl
  contract_utf8 (Transmit b p c) =
      known (codes "transmit(") refl ⊕ binders_utf8 b ⊕ known (codes " | ") refl ⊕ expression_utf8 p
      ⊕ known (codes "). ") refl ⊕ bracketed_utf8 _ (contract_text names c) (contract_utf8 c)
  contract_utf8 (Plus a b) =
      bracketed_utf8 _ (contract_text names a) (contract_utf8 a) ⊕ known (codes " + ") refl
      ⊕ bracketed_utf8 _ (contract_text names b) (contract_utf8 b)
  contract_utf8 (Par a b) =
      bracketed_utf8 _ (contract_text names a) (contract_utf8 a) ⊕ known (codes " || ") refl
      ⊕ bracketed_utf8 _ (contract_text names b) (contract_utf8 b)
  contract_utf8 (Seq a b) =
      bracketed_utf8 _ (contract_text names a) (contract_utf8 a) ⊕ known (codes " ; ") refl
      ⊕ bracketed_utf8 _ (contract_text names b) (contract_utf8 b)
  contract_utf8 (App f args) = call_utf8 f args

  event_utf8 : (e : Event) → IsUtf8 (event_text names e)
  event_utf8 e =
      name_utf8 e.sender ⊕ known (codes " ") refl ⊕ name_utf8 e.receiver ⊕ known (codes " ") refl
      ⊕ (signed_utf8 e.what.amount ⊕ known (codes " ") refl ⊕ name_utf8 e.what.kind) ⊕ known (codes " @") refl
      ⊕ day_text-utf8 e.day

  pub command_utf8 : (c : plain.Command) → IsUtf8 (command_text names c)
  command_utf8 (plain.Register x c) =
      known (codes "register ") refl ⊕ name_utf8 x ⊕ known (codes " = ") refl ⊕ contract_utf8 c
  command_utf8 (plain.Transmit x e) =
      known (codes "transmit ") refl ⊕ name_utf8 x ⊕ known (codes " ") refl ⊕ event_utf8 e
  command_utf8 (plain.Void x k) = known (codes "void ") refl ⊕ name_utf8 x ⊕ known (codes " ") refl ⊕ decimal_utf8 k
  command_utf8 (plain.End x) = known (codes "end ") refl ⊕ name_utf8 x
  command_utf8 (plain.Show x) = known (codes "show ") refl ⊕ name_utf8 x
  command_utf8 (plain.Tally q args) = known (codes "tally ") refl ⊕ call_utf8 q args
  command_utf8 (plain.Portfolio q args over) =
      known (codes "portfolio ") refl ⊕ call_utf8 q args ⊕ known (codes " over ") refl ⊕ names_utf8 over
  command_utf8 (plain.Watch q args) = known (codes "watch ") refl ⊕ call_utf8 q args
  command_utf8 (plain.Read n) = known (codes "read ") refl ⊕ decimal_utf8 n

  parameters_utf8 : (params : List Param) → IsUtf8 (parameters_text names params)
  parameters_utf8 params =
      known (codes "(") refl
      ⊕ listed_utf8 (parameter_text names) (λ p. name_utf8 p.name ⊕ known (codes ": ") refl ⊕ type_utf8 p.ty) params
      ⊕ known (codes ")") refl

  template_utf8 : (t : Template) → IsUtf8 (template_text names t)
  template_utf8 t =
      known (codes "template ") refl ⊕ name_utf8 t.name ⊕ parameters_utf8 t.params ⊕ known (codes " = ") refl
      ⊕ contract_utf8 t.body

  key_utf8 : (key : Option Expression) → IsUtf8 (key_text names key)
  key_utf8 None = IsUtf8-nil
  key_utf8 (Some e) = known (codes " by ") refl ⊕ expression_utf8 e

  fold_utf8 : (q : Report) → IsUtf8 (fold_text names q)
  fold_utf8 q =
      known (codes "fold ") refl ⊕ name_utf8 q.carry ⊕ known (codes " = ") refl ⊕ expression_utf8 q.start
      ⊕ known (codes " with (") refl ⊕ binders_utf8 q.binders ⊕ known (codes ") in ") refl ⊕ expression_utf8 q.step
      ⊕ key_utf8 q.key

  report_utf8 : (q : Report) → IsUtf8 (report_text names q)
  report_utf8 q =
      known (codes "report ") refl ⊕ name_utf8 q.name ⊕ parameters_utf8 q.params ⊕ known (codes ": ") refl
      ⊕ type_utf8 q.ty ⊕ known (codes " = ") refl ⊕ fold_utf8 q

  pub statement_utf8 : (s : Statement) → IsUtf8 (statement_text names s)
  statement_utf8 (Agents xs) = known (codes "agents ") refl ⊕ names_utf8 xs
  statement_utf8 (Kinds xs) = known (codes "kinds ") refl ⊕ names_utf8 xs
  statement_utf8 (said.Template t) = template_utf8 t
  statement_utf8 (said.Report q) = report_utf8 q
  statement_utf8 Clerk = known (codes "clerk") refl
  statement_utf8 Journal = known (codes "journal") refl
  statement_utf8 (Command c) = command_utf8 c
  statement_utf8 (Numbered clerk c) = decimal_utf8 clerk ⊕ known (codes ": ") refl ⊕ command_utf8 c
