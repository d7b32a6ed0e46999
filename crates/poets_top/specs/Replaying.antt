-- The word `replay`.
use Rattle.std.specs.Prelude.{◌≡◌, ℕ, List, Option}
use Rattle.std.specs.Io.KnownBytes.{Appends}
use Rattle.poets_io.specs.Streams.{GivesAll}
use Rattle.poets_lex.specs.Table.{Table}
use Rattle.poets_command.specs.Plain.{Entry}
use Rattle.poets_command.specs.Calls.{calls_of}
use Rattle.poets_command.specs.Said.{Statement}
use Rattle.poets_command.specs.Declarations.{book_from, reports_of}
use Rattle.poets_history.specs.Histories.{IsRightHistory}
use Rattle.poets_print.specs.Lines.{history_text}
use Rattle.poets_session.specs.declared.form.Form.TheVariants as F
use Rattle.poets_session.specs.Sessions.{Text, IsSession, journal_of}

-- a right history of the journal's calls, in their order
pub record IsReplayOf (statements : List Statement) (h : List Entry) : Type 0 where
  pub right : IsRightHistory (book_from statements) (reports_of statements) h
  pub calls : calls_of h ≡ journal_of statements

-- the history of the journal's calls is made, and its lines are to be written
pub record ReplaysJournal (names : Table) (statements : List Statement) (h : List Entry) (text : List ℕ) : Type 0 where
  pub history : IsReplayOf statements h
  pub lines : text ≡ history_text names h

-- a journal was replayed: what the source had left before and after, what the sink held before and
-- after, and the history
pub record HasReplayed (left left' held held' : Option (List ℕ)) (h : List Entry) : Type 0 where
  -- the source was read to its end, and its bytes are the text of a session with a journal; where
  -- it does not tell its bytes, there is such a text
  pub text : Text
  pub given : GivesAll left left' text
  pub names : Table
  pub statements : List Statement
  pub session : IsSession text F.Journal names statements
  -- the history is right, and has the journal's calls
  pub history : IsReplayOf statements h
  -- the sink got its lines, where it tells what it holds
  pub written : Appends held held' (history_text names h)
