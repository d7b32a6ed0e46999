-- The length of printed texts.
use Rattle.std.specs.Prelude.{◌*◌, ◌≤◌, List, length}
use Rattle.poets_lex.specs.declared.token.Tok.{Tok}
use Rattle.poets_lex.specs.Table.{Table, IsTable}
use Rattle.poets_grammar.specs.Statements.{IsCommand}
use Rattle.poets_command.specs.Plain.{Command}
use Rattle.poets_command.specs.Taken.{IsWholeCommand}
use Rattle.poets_print.specs.Lines.{command_text}
use Rattle.poets_print.specs.Laws.{CanWriteNumberOf}

-- a command prints as at most 80 bytes for each token that it was read from
abbrev pub CommandsAreShort : Type 0
CommandsAreShort =
    (names : Table) (ts : List Tok) (command : Command)
    → IsTable names → IsWholeCommand command → CanWriteNumberOf command → IsCommand ts command
    → length (command_text names command) ≤ 80 * length ts
