-- The word `run`.
use Rattle.std.specs.Prelude.{◌≡◌, ℕ, suc, ◌≤◌, List, length, All, Some, slice_get, Option}
use Rattle.std.specs.Io.KnownBytes.{Appends}
use Rattle.poets_io.specs.Streams.{GivesAll}
use Rattle.poets_lex.specs.Table.{Table}
use Rattle.poets_command.specs.Plain.{Command, Entry}
use Rattle.poets_command.specs.Calls.{own}
use Rattle.poets_command.specs.Said.{Statement}
use Rattle.poets_command.specs.Declarations.{book_from, reports_of}
use Rattle.poets_history.specs.Histories.{IsRightHistory}
use Rattle.poets_print.specs.Lines.{history_text}
use Rattle.poets_session.specs.declared.form.Form.TheVariants as F
use Rattle.poets_session.specs.Sessions.{Text, IsSession, scripts_of}

-- a right history in which the commands of each clerk are his script, in order, and there are no
-- others
pub record IsHistoryOf (statements : List Statement) (h : List Entry) : Type 0 where
  pub right : IsRightHistory (book_from statements) (reports_of statements) h
  pub own : (place : ℕ) (script : List Command) → slice_get (scripts_of statements) place ≡ Some script →
      own (suc place) h ≡ script
  pub clerks : All (λ e. (1 ≤ e.clerk) × (e.clerk ≤ length (scripts_of statements))) h

-- a history is made of the clerks' scripts, and its lines are to be written
pub record RunsScripts (names : Table) (statements : List Statement) (h : List Entry) (text : List ℕ) : Type 0 where
  pub history : IsHistoryOf statements h
  pub lines : text ≡ history_text names h

-- a session was run: what the source had left before and after, what the sink held before and
-- after, and the history
pub record HasRun (left left' held held' : Option (List ℕ)) (h : List Entry) : Type 0 where
  -- the source was read to its end, and its bytes are the text of a session of clerks; where it
  -- does not tell its bytes, there is such a text
  pub text : Text
  pub given : GivesAll left left' text
  pub names : Table
  pub statements : List Statement
  pub session : IsSession text F.Clerks names statements
  -- the history is right, and has each clerk's commands once, in his order
  pub history : IsHistoryOf statements h
  -- the sink got its lines, where it tells what it holds
  pub written : Appends held held' (history_text names h)
