-- The book and the reports of rules, as plain data.
use Rattle.std.specs.Prelude.{List, map}
use Rattle.poets_syntax.specs.Plain.{Book}
use Rattle.poets_syntax.specs.Book.{book_of}
use Rattle.poets_report.specs.Plain.{Report}
use Rattle.poets_report.specs.Reports.{report_of}
use Rattle.poets_rules.specs.declared.rules.Rules.{Rules}

-- the declared names and the templates of the rules
abbrev pub book_of_rules : Rules → Book
book_of_rules rules = book_of rules.studied.book

-- the reports of the rules, as plain data
abbrev pub reports_of_rules : Rules → List Report
reports_of_rules rules = map report_of rules.reports.items
