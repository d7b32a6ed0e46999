-- The book that a host opens.
use Rattle.std.specs.Prelude.{◌≡◌, List}
use Rattle.poets_command.specs.Declarations.{book_from, reports_of}
use Rattle.poets_command.specs.Said.{Statement}
use Rattle.poets_rules.specs.Rules.{book_of_rules, reports_of_rules}
use Rattle.poets_session.specs.Sessions.{IsSession, Text}
use Rattle.poets_session.specs.declared.form.Form.TheVariants as F
use Rattle.poets_host.specs.declared.opening.Host.{Host}

-- the text is a book, and the host has its names, and an engine under its templates and reports
pub record HasBookOf (text : Text) (host : Host) : Type 0 where
  pub statements : List Statement
  pub is : IsSession text F.Book host.names statements
  pub book : book_of_rules host.engine.rules ≡ book_from statements
  pub reports : reports_of_rules host.engine.rules ≡ reports_of statements
