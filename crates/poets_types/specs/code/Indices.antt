-- What an index holds, as plain data.
use Rattle.std.specs.Prelude.{Bool, List, map}
use Rattle.poets_value.specs.declared.value.Name.{Name}
use Rattle.poets_syntax.specs.Plain.{Book}
use Rattle.poets_syntax.specs.Book.{book_of}
use Rattle.poets_syntax.specs.Typed.{in_use}
use Rattle.poets_report.specs.Reports.{report_of}
use Rattle.poets_command.specs.TypedStatements.{report_names}
use Rattle.poets_types.specs.declared.index.Index.{Index}

-- the book
abbrev pub book_in : Index → Book
book_in index = book_of index.book.now

-- the names of the reports beside it
abbrev pub reports_in : Index → List Name
reports_in index = report_names (map report_of index.reports.now)

-- the name is that of an agent, a kind, a template or a report
abbrev pub used_in : Index → Name → Bool
used_in index = in_use (book_in index) (reports_in index)
