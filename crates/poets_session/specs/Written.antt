-- What a text says is written with its names, and with numbers and days of the language; and the
-- names in a fault are names of the text.
use Rattle.std.specs.Prelude.{pos, ◌<◌, ◌^◌, IsTrue, List, [], ◌∷◌, All, IfSome}
use Rattle.poets_value.specs.Whole.{is_day}
use Rattle.poets_expr.specs.Expression.{Expression}
use Rattle.poets_expr.specs.Whole.{IsWholeExpression}
use Rattle.poets_syntax.specs.declared.term.Binders.{Binders}
use Rattle.poets_syntax.specs.declared.term.Param.{Param}
use Rattle.poets_syntax.specs.Contract.{Contract}
use Rattle.poets_syntax.specs.Whole.{IsWholeContract}
use Rattle.poets_syntax.specs.Plain.{TypeCause, Twice, Unknown, WrongCount, WrongType}
use Rattle.poets_command.specs.Said.{Statement, Agents, Kinds, Template, Report, Clerk, Journal}
use Rattle.poets_command.specs.Said.{Command, Numbered}
use Rattle.poets_lex.specs.Table.{Table}
use Rattle.poets_lex.specs.declared.token.Tok.{Tok}
use Rattle.poets_lex.specs.declared.token.Tok.TheVariants as K
use Rattle.poets_command.specs.Taken.{IsWholeCommand}
use Rattle.poets_command.specs.Plain as plain
use Rattle.poets_print.specs.Laws.{IsListed, CanWrite, CanWriteContract, CanWriteCommand}
use Rattle.poets_session.specs.Refusals.{Refusal, Mistyped, Unguarded}
use Rattle.poets_session.specs.Causes.{refusal_of}
use Rattle.poets_session.specs.declared.fault.SessionFault.{SessionFault}

-- a name is in the table, and a number or a day is one of the language
abbrev pub Fits : Table → Tok → Type 0
Fits names (K.Name x) = IsListed names x
Fits names (K.Number (pos n)) = n < 2 ^ 63
Fits names (K.Day d) = IsTrue (is_day d)
Fits names _ = Unit {0}

-- each of the tokens fits: its name is in the table, its number or day is one of the language
abbrev pub AllFit : Table → List Tok → Type 0
AllFit names [] = Unit {0}
AllFit names (t ∷ ts) = Fits names t × AllFit names ts

abbrev pub IsWrittenExpression : Table → Expression → Type 0
IsWrittenExpression names e = CanWrite names e × IsWholeExpression e

abbrev pub IsWrittenContract : Table → Contract → Type 0
IsWrittenContract names c = CanWriteContract names c × IsWholeContract c

abbrev pub IsWrittenCommand : Table → plain.Command → Type 0
IsWrittenCommand names command = CanWriteCommand names command × IsWholeCommand command

abbrev pub AreListedParameters : Table → List Param → Type 0
AreListedParameters names params = All (λ p. IsListed names p.name) params

abbrev pub AreListedBinders : Table → Binders → Type 0
AreListedBinders names b = All (IsListed names) (b.sender ∷ b.receiver ∷ b.what ∷ b.day ∷ [])

pub record IsWrittenTemplate (names : Table) (t : plain.Template) : Type 0 where
  pub name : IsListed names t.name
  pub params : AreListedParameters names t.params
  pub body : IsWrittenContract names t.body

pub record IsWrittenReport (names : Table) (q : plain.Report) : Type 0 where
  pub name : IsListed names q.name
  pub params : AreListedParameters names q.params
  pub start : IsWrittenExpression names q.start
  pub carry : IsListed names q.carry
  pub binders : AreListedBinders names q.binders
  pub step : IsWrittenExpression names q.step
  pub key : IfSome q.key (IsWrittenExpression names)

-- each name of the statement is in the table, and its numbers and days are those of the language
abbrev pub IsWritten : Table → Statement → Type 0
IsWritten names (Agents xs) = All (IsListed names) xs
IsWritten names (Kinds xs) = All (IsListed names) xs
IsWritten names (Template t) = IsWrittenTemplate names t
IsWritten names (Report q) = IsWrittenReport names q
IsWritten names Clerk = Unit {0}
IsWritten names Journal = Unit {0}
IsWritten names (Command command) = IsWrittenCommand names command
IsWritten names (Numbered clerk command) = IsWrittenCommand names command

-- the name in the fault, if there is one, is in the table
abbrev pub IsListedFault : Table → TypeCause → Type 0
IsListedFault names (Twice x) = IsListed names x
IsListedFault names (Unknown x) = IsListed names x
IsListedFault names (WrongCount x wanted found) = IsListed names x
IsListedFault names (WrongType wanted found) = Unit {0}

-- each name in the refusal is in the table
abbrev pub IsListedRefusal : Table → Refusal → Type 0
IsListedRefusal names (Mistyped number fault) = IsListedFault names fault
IsListedRefusal names (Unguarded number cycle) = All (IsListed names) cycle
IsListedRefusal names r = Unit {0}

-- each name in the fault is in its table
abbrev pub HasListedNames : SessionFault → Type 0
HasListedNames fault = IfSome (refusal_of fault.what) (IsListedRefusal fault.names)
