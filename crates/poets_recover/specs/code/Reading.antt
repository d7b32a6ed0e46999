-- Calls that are read, of which it is not yet known whether they are typed.
use Rattle.std.specs.Prelude.{◌≡◌, ◌≢◌, ℕ, ◌+◌, ◌≤◌, ◌<◌, ◌⊎◌, List, [], ◌∷◌, ◌++◌, length, take}
use Rattle.std.specs.Prelude.{Some, All, slice_get}
use Rattle.std.specs.Arc.{arc_value}
use Rattle.std.specs.declared.alloc.Global.{Global}
use Rattle.std.specs.declared.sync.Arc.{Arc}
use Rattle.poets_value.specs.Limits.{most_clerks}
use Rattle.poets_value.specs.Listed.{Listed}
use Rattle.poets_lex.specs.declared.token.Tok.{Tok}
use Rattle.poets_lex.specs.declared.token.Token.{Token}
use Rattle.poets_lex.specs.Lexes.{Lexes}
use Rattle.poets_lex.specs.Table.{Table, Extends}
use Rattle.poets_grammar.specs.Statements.{IsStatement}
use Rattle.poets_grammar.specs.Tokens.{toks}
use Rattle.poets_grammar.specs.TooDeep.{IsTooDeepStored}
use Rattle.poets_command.specs.declared.call.Command as code
use Rattle.poets_command.specs.Calls.{Call, command_of}
use Rattle.poets_command.specs.Plain.{Command}
use Rattle.poets_command.specs.Said.{Statement, Numbered}
use Rattle.poets_command.specs.Typing.{IsTypedCommand}
use Rattle.poets_rules.specs.declared.rules.Rules.{Rules}
use Rattle.poets_rules.specs.Rules.{book_of_rules, reports_of_rules}
use Rattle.poets_session.specs.Sessions.{calls_in}
use Rattle.poets_recover.specs.Stored.{AreCalls, length_of_all, most_stored}
use Rattle.poets_recover.specs.declared.fault.RecoverFault.{RecoverFault}
use Rattle.poets_recover.specs.declared.fault.RecoverFault.TheVariants as F

-- a call as the code has it: a clerk's number and a command
abbrev pub CodeCall : Type 0
CodeCall = ℕ × Arc code.Command Global

-- ---- one text

-- the statement has no clerk's number
abbrev pub IsUnnumbered : Statement → Type 0
IsUnnumbered s = (clerk : ℕ) (command : Command) → s ≢ Numbered clerk command

-- the tokens say this call
pub record SayCall (ts : List Tok) (clerk : ℕ) (command : Command) : Type 0 where
  pub shallow : ¬ (IsTooDeepStored ts)
  pub said : IsStatement ts (Numbered clerk command)
  pub from : 1 ≤ clerk
  pub to : clerk ≤ most_clerks

-- the tokens say this call of the code
abbrev pub AreTokensOf : List Tok → CodeCall → Type 0
AreTokensOf ts call = SayCall ts call.0 (command_of (arc_value call.1))

-- the tokens say no call
abbrev pub AreTokensOfNone : List Tok → Type 0
AreTokensOfNone ts = (clerk : ℕ) (command : Command) → ¬ (SayCall ts clerk command)

-- the text says this call; its new names get the next numbers of a table
pub record SaysCall (before : Table) (text : List ℕ) (clerk : ℕ) (command : Command) (after : Table) : Type 0 where
  pub tokens : List Token
  pub lexed : Lexes before text 0 tokens after
  pub say : SayCall (toks tokens) clerk command

-- the text says this call of the code
abbrev pub SaysCallOf : Table → List ℕ → Table → CodeCall → Type 0
SaysCallOf before text after call = SaysCall before text call.0 (command_of (arc_value call.1)) after

-- the text says no call
abbrev pub SaysNone : Table → List ℕ → Type 0
SaysNone before text = (clerk : ℕ) (command : Command) (after : Table) → ¬ (SaysCall before text clerk command after)

-- ---- texts

-- after texts with so many bytes and a table of names, reading stops: at a text that brings the
-- bytes past the most or says no call, or at the end, with this table
abbrev pub StopsAt : ℕ → Table → List (List ℕ) → Table → Type 0
StopsAt bytes between [] names = between ≡ names
StopsAt bytes between (text ∷ rest) names = (most_stored < bytes + length text) ⊎ SaysNone between text

-- the first of the texts say these calls, and then reading stops
pub record AreReadAs (before : Table) (texts : List (List ℕ)) (calls : List Call) (names : Table) : Type 0 where
  pub front : List (List ℕ)
  pub rest : List (List ℕ)
  pub between : Table
  pub cut : texts ≡ front ++ rest
  pub say : AreCalls SaysCall before front calls between
  pub within : length_of_all front ≤ most_stored
  pub stops : StopsAt (length_of_all front) between rest names

abbrev pub AreRead : Table → List (List ℕ) → Table → Listed CodeCall → Type 0
AreRead before texts names calls = AreReadAs before texts (calls_in calls.items) names

-- so many of the texts say these calls, one after the other, and leave so many bytes of the most,
-- and this table
pub record HaveSaid
    (before : Table) (texts : List (List ℕ)) (count : ℕ) (room : ℕ) (calls : List Call) (names : Table) : Type 0 where
  pub say : AreCalls SaysCall before (take count texts) calls names
  pub left : room + length_of_all (take count texts) ≡ most_stored
  pub few : length names ≤ length before + length_of_all (take count texts)
  pub extends : Extends before names

-- ---- types

abbrev pub IsTypedBy : Rules → Command → Type 0
IsTypedBy rules command = IsTypedCommand (book_of_rules rules) (reports_of_rules rules) command

-- each of the calls is typed under the rules
abbrev pub AreTyped : Rules → List CodeCall → Type 0
AreTyped rules = All (λ call. IsTypedBy rules (command_of (arc_value call.1)))

-- the call at the place is the first that is not typed under the rules
pub record IsMistyped (rules : Rules) (calls : List CodeCall) (place : ℕ) : Type 0 where
  pub call : CodeCall
  pub here : slice_get calls place ≡ Some call
  pub ahead : AreTyped rules (take place calls)
  pub untyped : ¬ (IsTypedBy rules (command_of (arc_value call.1)))

-- the fault is the number, from 1, of the first call that is not typed, or memory ran out
abbrev pub TellsMistyped : Rules → List CodeCall → RecoverFault → Type 0
TellsMistyped rules calls (F.Text number) = (place : ℕ) × (number ≡ place + 1) × IsMistyped rules calls place
TellsMistyped rules calls F.Memory = Unit {0}
