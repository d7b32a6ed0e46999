-- Calls that were read under one table of names, printed with it, and are read under another.
use Rattle.std.specs.Prelude.{◌≡◌, ℕ, suc, ◌≤◌, true, List, All, length, map, Some, slice_get}
use mathlib.Core.List.{IsPrefix}
use Rattle.std.specs.List.{Contains}
use Rattle.poets_value.specs.Limits.{most_clerks}
use Rattle.poets_value.specs.declared.value.Name.{Name}
use Rattle.poets_lex.specs.declared.token.Tok.{Tok}
use Rattle.poets_lex.specs.Table.{Table}
use Rattle.poets_grammar.specs.Statements.{IsCommand}
use Rattle.poets_grammar.specs.TooDeep.{IsTooDeep}
use Rattle.poets_syntax.specs.Plain.{Book}
use Rattle.poets_syntax.specs.Typed.{in_use}
use Rattle.poets_report.specs.Plain.{Report}
use Rattle.poets_command.specs.Calls.{Call, own}
use Rattle.poets_command.specs.Plain.{Command, Entry}
use Rattle.poets_command.specs.Said.{Statement}
use Rattle.poets_command.specs.Taken.{IsTaken}
use Rattle.poets_command.specs.TypedStatements.{report_names}
use Rattle.poets_print.specs.Laws.{IsListed, CanWriteCommand}
use Rattle.poets_printed.specs.Numbered.{numbered_text}
use Rattle.poets_recover.specs.Stored.{AreStoredCalls}
use Rattle.poets_session.specs.Sessions.{scripts_of}

-- the texts of calls, as `1: show deal`
abbrev pub texts_of_calls : Table → List Call → List (List ℕ)
texts_of_calls names calls = map (λ call. numbered_text names call.0 call.1) calls

-- a call of one of the clerks: its command is typed in the book and its reports and whole, has its
-- names in the table, and was read from tokens that are not too deep
pub record IsReadCall (book : Book) (reports : List Report) (names : Table) (call : Call) : Type 0 where
  pub from : 1 ≤ call.0
  pub to : call.0 ≤ most_clerks
  pub taken : IsTaken book reports call.1
  pub written : CanWriteCommand names call.1
  pub tokens : List Tok
  pub read : IsCommand tokens call.1
  pub shallow : ¬ (IsTooDeep tokens)

-- the agents, kinds, templates and reports of the book are in the table
abbrev pub AreListedNames : Book → List Report → Table → Type 0
AreListedNames book reports names = (x : Name) → in_use book (report_names reports) x ≡ true → IsListed names x

-- the texts are calls of the book and its reports, whose new names get the next numbers of a table,
-- and the calls have these texts again
pub record AreReread (book : Book) (reports : List Report) (before : Table) (texts : List (List ℕ)) : Type 0 where
  pub calls : List Call
  pub after : Table
  pub stored : AreStoredCalls book reports before texts calls after
  pub again : texts_of_calls after calls ≡ texts

-- the call is its clerk's: his script has the command
pub record IsCallOf (statements : List Statement) (call : Call) : Type 0 where
  pub place : ℕ
  pub clerk : call.0 ≡ suc place
  pub script : List Command
  pub his : slice_get (scripts_of statements) place ≡ Some script
  pub has : Contains script call.1

-- in the history the commands of each clerk are a prefix of his script, and there are no commands
-- of other clerks
pub record BeginScripts (statements : List Statement) (h : List Entry) : Type 0 where
  pub own : (place : ℕ) (script : List Command) → slice_get (scripts_of statements) place ≡ Some script →
      IsPrefix (own (suc place) h) script
  pub clerks : All (λ e. (1 ≤ e.clerk) × (e.clerk ≤ length (scripts_of statements))) h
