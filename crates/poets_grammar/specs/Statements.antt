-- The grammar of statements, without the `;;` after them.
use Rattle.std.specs.Prelude.{◌≡◌, ℕ, List, [], ◌∷◌, Option, Some, None, ℤ, pos}
use Rattle.poets_value.specs.declared.value.Name.{Name}
use Rattle.poets_value.specs.declared.value.Ty.{Ty}
use Rattle.poets_expr.specs.Expression.{Expression}
use Rattle.poets_syntax.specs.declared.term.Binders.{Binders}
use Rattle.poets_syntax.specs.declared.term.Param.{Param}
use Rattle.poets_syntax.specs.Contract.{Contract}
use Rattle.poets_command.specs.Plain as plain
use Rattle.poets_command.specs.Said.{Statement}
use Rattle.poets_command.specs.Said as said
use Rattle.poets_lex.specs.declared.token.Word.{Word}
use Rattle.poets_lex.specs.declared.token.Word.TheVariants as W
use Rattle.poets_lex.specs.declared.token.Sign.TheVariants as S
use Rattle.poets_lex.specs.declared.token.Tok.{Tok}
use Rattle.poets_lex.specs.declared.token.Tok.TheVariants as K
use Rattle.poets_grammar.specs.Tokens.{type_of}
use Rattle.poets_grammar.specs.Lists.{ReadsBracketed, ReadsNames}
use Rattle.poets_grammar.specs.Expressions.{ReadsExpression, Disjunction, IsExpression}
use Rattle.poets_grammar.specs.Expressions.{ReadsArguments}
use Rattle.poets_grammar.specs.ContractGrammar.{ReadsBinders, IsContract}

-- NAME ":" type
pub data ReadsParameter : List Tok → Param → List Tok → Type 0 where
  Typed :
      {x : Name} {w : Word} {t : Ty} {rest : List Tok} →
      type_of w ≡ Some t →
      ReadsParameter (K.Name x ∷ K.Sign S.Colon ∷ K.Word w ∷ rest) (record { name = x; ty = t }) rest

-- "(" [ params ] ")", where params = NAME ":" type { "," NAME ":" type }
abbrev pub ReadsParameters : List Tok → List Param → List Tok → Type 0
ReadsParameters ts params rest = ReadsBracketed ReadsParameter ts params rest

-- the step of a report, and its key: expression [ "by" expression ]
pub data IsStep : List Tok → Expression → Option Expression → Type 0 where
  WithoutKey : {ts : List Tok} {step : Expression} → IsExpression ts step → IsStep ts step None
  WithKey :
      {ts mid : List Tok} {step key : Expression} →
      ReadsExpression Disjunction ts step (K.Word W.By ∷ mid) → IsExpression mid key → IsStep ts step (Some key)

pub data IsCommand : List Tok → plain.Command → Type 0 where
  -- "register" NAME "=" contract
  Register :
      {x : Name} {ts : List Tok} {c : Contract} →
      IsContract ts c → IsCommand (K.Word W.Register ∷ K.Name x ∷ K.Sign S.Equal ∷ ts) (plain.Register x c)
  -- "transmit" NAME NAME NAME NUMBER NAME DAY: the contract, the sender, the receiver, the amount,
  -- the kind and the day
  Transmit :
      {x sender receiver kind : Name} {n : ℕ} {day : ℤ} →
      IsCommand
      (K.Word W.Transmit ∷ K.Name x ∷ K.Name sender ∷ K.Name receiver ∷ K.Number (pos n) ∷ K.Name kind ∷ K.Day day ∷ [])
      (plain.Transmit x
      (record { sender = sender; receiver = receiver; what = record { kind = kind; amount = pos n }; day = day }))
  -- "void" NAME NUMBER
  Void : {x : Name} {n : ℕ} → IsCommand (K.Word W.Void ∷ K.Name x ∷ K.Number (pos n) ∷ []) (plain.Void x n)
  -- "end" NAME | "show" NAME
  End : {x : Name} → IsCommand (K.Word W.End ∷ K.Name x ∷ []) (plain.End x)
  Show : {x : Name} → IsCommand (K.Word W.Show ∷ K.Name x ∷ []) (plain.Show x)
  -- "tally" NAME "(" [ expression { "," expression } ] ")"
  Tally :
      {q : Name} {ts : List Tok} {args : List Expression} →
      ReadsArguments ts args [] → IsCommand (K.Word W.Tally ∷ K.Name q ∷ ts) (plain.Tally q args)
  -- "portfolio" NAME "(" [ expression { "," expression } ] ")" "over" names
  Portfolio :
      {q : Name} {ts mid : List Tok} {args : List Expression} {names : List Name} →
      ReadsArguments ts args (K.Word W.Over ∷ mid) → ReadsNames mid names [] →
      IsCommand (K.Word W.Portfolio ∷ K.Name q ∷ ts) (plain.Portfolio q args names)
  -- "watch" NAME "(" [ expression { "," expression } ] ")"
  Watch :
      {q : Name} {ts : List Tok} {args : List Expression} →
      ReadsArguments ts args [] → IsCommand (K.Word W.Watch ∷ K.Name q ∷ ts) (plain.Watch q args)
  -- "read" NUMBER
  Read : {n : ℕ} → IsCommand (K.Word W.Read ∷ K.Number (pos n) ∷ []) (plain.Read n)

-- the tokens are a statement that says this
pub data IsStatement : List Tok → Statement → Type 0 where
  -- "agents" names | "kinds" names
  Agents : {ts : List Tok} {names : List Name} → ReadsNames ts names [] →
      IsStatement (K.Word W.Agents ∷ ts) (said.Agents names)
  Kinds : {ts : List Tok} {names : List Name} → ReadsNames ts names [] →
      IsStatement (K.Word W.Kinds ∷ ts) (said.Kinds names)
  -- "template" NAME "(" [ params ] ")" "=" contract
  Template :
      {f : Name} {ts mid : List Tok} {params : List Param} {body : Contract} →
      ReadsParameters ts params (K.Sign S.Equal ∷ mid) → IsContract mid body →
      IsStatement (K.Word W.Template ∷ K.Name f ∷ ts)
      (said.Template (record { name = f; params = params; body = body }))
  -- "report" NAME "(" [ params ] ")" ":" type "=" "fold" NAME "=" expression
  -- "with" "(" NAME "," NAME "," NAME "," NAME ")" "in" expression [ "by" expression ]
  Report :
      {q carry : Name} {ts from_start from_binders from_step : List Tok} {params : List Param} {w : Word} {ty : Ty}
      {start step : Expression}
      {binders : Binders} {key : Option Expression} →
      ReadsParameters ts params
      (K.Sign S.Colon ∷ K.Word w ∷ K.Sign S.Equal ∷ K.Word W.Fold ∷ K.Name carry ∷ K.Sign S.Equal ∷ from_start) →
      type_of w ≡ Some ty →
      ReadsExpression Disjunction from_start start (K.Word W.With ∷ K.Sign S.LeftParen ∷ from_binders) →
      ReadsBinders from_binders binders (K.Sign S.RightParen ∷ K.Word W.In ∷ from_step) →
      IsStep from_step step key →
      IsStatement (K.Word W.Report ∷ K.Name q ∷ ts)
      (said.Report
      (record {
        name = q;
        params = params;
        ty = ty;
        start = start;
        carry = carry;
        binders = binders;
        step = step;
        key = key;
      }))
  -- "clerk" | "journal"
  Clerk : IsStatement (K.Word W.Clerk ∷ []) said.Clerk
  Journal : IsStatement (K.Word W.Journal ∷ []) said.Journal
  -- command
  Command : {ts : List Tok} {command : plain.Command} → IsCommand ts command → IsStatement ts (said.Command command)
  -- NUMBER ":" command, with the number of the clerk
  Numbered :
      {n : ℕ} {ts : List Tok} {command : plain.Command} →
      IsCommand ts command → IsStatement (K.Number (pos n) ∷ K.Sign S.Colon ∷ ts) (said.Numbered n command)
