-- The commands that an engine takes.
use Rattle.std.specs.Prelude.{List, All}
use Rattle.poets_value.specs.Whole.{IsWholeEvent}
use Rattle.poets_expr.specs.Whole.{IsWholeExpression}
use Rattle.poets_syntax.specs.Plain.{Book}
use Rattle.poets_syntax.specs.Whole.{IsWholeContract}
use Rattle.poets_report.specs.Plain.{Report}
use Rattle.poets_command.specs.Plain.{Command}
use Rattle.poets_command.specs.Typing.{IsTypedCommand}

-- each number that is a value in the command is a whole number of the language, and each day one of
-- its days; the place of an event and the number of a watch may be any
abbrev pub IsWholeCommand : Command → Type 0
IsWholeCommand (Command.Register x c) = IsWholeContract c
IsWholeCommand (Command.Transmit x e) = IsWholeEvent e
IsWholeCommand (Command.Void x k) = Unit {0}
IsWholeCommand (Command.End x) = Unit {0}
IsWholeCommand (Command.Show x) = Unit {0}
IsWholeCommand (Command.Tally q args) = All IsWholeExpression args
IsWholeCommand (Command.Portfolio q args over) = All IsWholeExpression args
IsWholeCommand (Command.Watch q args) = All IsWholeExpression args
IsWholeCommand (Command.Read n) = Unit {0}

-- the command is typed in the book and its reports, and whole
pub record IsTaken (book : Book) (reports : List Report) (command : Command) : Type 0 where
  pub typed : IsTypedCommand book reports command
  pub whole : IsWholeCommand command
