-- What the statements of the code say.
use Rattle.std.specs.Prelude.{List, map}
use Rattle.poets_syntax.specs.Book.{template_of}
use Rattle.poets_report.specs.Reports.{report_of}
use Rattle.poets_command.specs.Calls.{command_of}
use Rattle.poets_command.specs.Said as said
use Rattle.poets_command.specs.declared.statement.Statement.{Statement}
use Rattle.poets_command.specs.declared.statement.Statement.TheVariants as S

-- `Statement` as plain data, without boxes
abbrev pub statement_of : Statement → said.Statement
statement_of (S.Agents names) = said.Agents names.items
statement_of (S.Kinds names) = said.Kinds names.items
statement_of (S.Template t) = said.Template (template_of t)
statement_of (S.Report r) = said.Report (report_of r)
statement_of S.Clerk = said.Clerk
statement_of S.Journal = said.Journal
statement_of (S.Command c) = said.Command (command_of c)
statement_of (S.Numbered clerk c) = said.Numbered clerk (command_of c)

-- statements as plain data, without boxes
abbrev pub statements_of : List Statement → List said.Statement
statements_of statements = map statement_of statements
