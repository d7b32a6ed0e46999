-- The demands of typing and the checks of commands and statements agree, as statements.
use Rattle.std.specs.Prelude.{◌≡◌, ◌↔◌, ℕ, List, Some, None}
use Rattle.poets_syntax.specs.Plain.{Book, TypeCause}
use Rattle.poets_syntax.specs.TypeOf.{Fails}
use Rattle.poets_syntax.specs.Demands.{AreMet, FirstFault}
use Rattle.poets_report.specs.Plain.{Report}
use Rattle.poets_command.specs.Plain.{Command}
use Rattle.poets_command.specs.Said.{Statement}
use Rattle.poets_command.specs.Typing.{IsTypedCommand}
use Rattle.poets_command.specs.TypedStatements.{check_command, first_fault}
use Rattle.poets_command.specs.StatementDemands.{command_demands, AreTypedStatements}
use Rattle.poets_command.specs.StatementDemands.{FirstTypeFault}

-- a command is typed exactly where all its demands are met
abbrev pub CommandsByDemands : Type 0
CommandsByDemands = (book : Book) (reports : List Report) (command : Command) →
    IsTypedCommand book reports command ↔ AreMet book.declared (command_demands book reports command)

-- a command fails with the cause of the first demand that is not met, and else does not fail
abbrev pub CommandFaultsByDemands : Type 0
CommandFaultsByDemands = (book : Book) (reports : List Report) (command : Command) (cause : TypeCause) →
    check_command book reports command ≡ Fails cause
    ↔ FirstFault book.declared (command_demands book reports command) cause

-- statements pass exactly where all their demands are met
abbrev pub StatementsByDemands : Type 0
StatementsByDemands = (statements : List Statement) → first_fault statements ≡ None ↔ AreTypedStatements statements

-- the first fault of statements is that of the first demand that is not met
abbrev pub StatementFaultsByDemands : Type 0
StatementFaultsByDemands = (statements : List Statement) (number : ℕ) (cause : TypeCause) →
    first_fault statements ≡ Some (number, cause) ↔ FirstTypeFault statements number cause
