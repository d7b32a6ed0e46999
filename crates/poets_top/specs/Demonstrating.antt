-- The word `demo`.
use Rattle.std.specs.Prelude.{◌≡◌, ℕ, List, Option}
use Rattle.std.specs.Io.KnownBytes.{Appends}
use Rattle.poets_lex.specs.Table.{Table}
use Rattle.poets_command.specs.Plain.{Entry}
use Rattle.poets_command.specs.Said.{Statement}
use Rattle.poets_demo.specs.Line.{demo_line}
use Rattle.poets_demo.specs.Text.{demo_text}
use Rattle.poets_session.specs.declared.form.Form.TheVariants as F
use Rattle.poets_session.specs.Sessions.{IsSession}
use Rattle.poets_top.specs.Running.{IsHistoryOf}
use Rattle.poets_writing.specs.declared.outcome.TheConstants.{DONE}

-- the demonstration's text is a session of clerks, of which a history was made, and this is the
-- line that sums it up
pub record IsDemonstrated (sales : ℕ) (h : List Entry) (line : List ℕ) : Type 0 where
  pub names : Table
  pub statements : List Statement
  pub session : IsSession (demo_text sales) F.Clerks names statements
  pub history : IsHistoryOf statements h
  pub line_is : line ≡ demo_line sales h

-- what is due for a demonstration: its history, and its line
pub data IsDemonstration (sales : ℕ) : (status : ℕ) → List Entry → (text : List ℕ) → Type 0 where
  Demonstrated : {h : List Entry} {line : List ℕ} → IsDemonstrated sales h line → IsDemonstration sales DONE h line

-- a demonstration was shown: what the sink held before and after, and the history
pub record HasDemonstrated (sales : ℕ) (held held' : Option (List ℕ)) (h : List Entry) : Type 0 where
  -- the history is that of the demonstration's clerks
  pub demonstrated : IsDemonstrated sales h (demo_line sales h)
  -- the sink got its line, where it tells what it holds
  pub written : Appends held held' (demo_line sales h)
