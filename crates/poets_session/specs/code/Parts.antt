-- The parts of a session as the code makes them.
use Rattle.std.specs.Prelude.{◌≡◌, List, map}
use Rattle.poets_syntax.specs.Book.{book_of}
use Rattle.poets_report.specs.Reports.{report_of}
use Rattle.poets_command.specs.Said.{Statement}
use Rattle.poets_command.specs.Declarations.{book_from, reports_of}
use Rattle.poets_session.specs.Sessions.{commands_in, calls_in, scripts_of, journal_of}
use Rattle.poets_session.specs.declared.validity.Parts.{Parts}

-- the parts hold what the statements say
pub record HoldParts (statements : List Statement) (parts : Parts) : Type 0 where
  pub book : book_of parts.rules.studied.book ≡ book_from statements
  pub reports : map report_of parts.rules.reports.items ≡ reports_of statements
  pub scripts : commands_in parts.calls.scripts.items ≡ scripts_of statements
  pub journal : calls_in parts.calls.journal.items ≡ journal_of statements
