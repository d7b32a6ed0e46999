-- What an engine takes under its rules.
use Rattle.poets_command.specs.Plain.{Command}
use Rattle.poets_command.specs.Taken.{IsTaken}
use Rattle.poets_rules.specs.declared.rules.Rules.{Rules}
use Rattle.poets_rules.specs.Rules.{book_of_rules, reports_of_rules}

-- an engine with the rules takes the command: it is typed in their book and reports, and whole
abbrev pub IsTakenBy : Rules → Command → Type 0
IsTakenBy rules command = IsTaken (book_of_rules rules) (reports_of_rules rules) command
