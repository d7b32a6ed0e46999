-- The text of a command in a journal.
use Rattle.std.specs.Prelude.{ℕ, ◌<◌, ◌≤◌, ◌^◌, List, length}
use Rattle.poets_lex.specs.declared.token.Token.{Token}
use Rattle.poets_lex.specs.Table.{Table}
use Rattle.poets_lex.specs.Lexes.{Lexes}
use Rattle.poets_grammar.specs.Tokens.{toks}
use Rattle.poets_grammar.specs.Statements.{IsStatement}
use Rattle.poets_grammar.specs.TooDeep.{IsTooDeepStored}
use Rattle.poets_command.specs.Calls.{command_of}
use Rattle.poets_command.specs.Plain.{Command}
use Rattle.poets_command.specs.Said.{Numbered}
use Rattle.poets_command.specs.declared.call.Command.{Command as CodeCommand}
use Rattle.poets_print.specs.Laws.{CanWriteCommand}
use Rattle.poets_printed.specs.Numbered.{numbered_text}

-- the grammar can write the command, whose names are in the table
abbrev pub HasText : Table → CodeCommand → Type 0
HasText names command = CanWriteCommand names (command_of command)

-- the text of a clerk's command, as `1: register a = Success`
abbrev pub stored_text : Table → ℕ → CodeCommand → List ℕ
stored_text names clerk command = numbered_text names clerk (command_of command)

-- the text of the command has at most so many bytes, whichever clerk's it is
abbrev pub IsShortCommand : Table → ℕ → Command → Type 0
IsShortCommand names most command = (clerk : ℕ) → clerk < 2 ^ 32 → length (numbered_text names clerk command) ≤ most

-- the command has a text under each clerk's number, which fits a record
abbrev pub IsStorableCommand : Table → Command → Type 0
IsStorableCommand names command =
    CanWriteCommand names command
    × ((clerk : ℕ) → clerk < 2 ^ 32 → length (numbered_text names clerk command) < 2 ^ 32)

-- the text under each clerk's number is cut into tokens, without a new name; they are that
-- statement, and not too deep for one that was stored
abbrev pub ReadsBack : Table → Command → Type 0
ReadsBack names command =
    (clerk : ℕ) → clerk < 2 ^ 63 →
    (tokens : List Token) × Lexes names (numbered_text names clerk command) 0 tokens names
    × IsStatement (toks tokens) (Numbered clerk command) × ¬ (IsTooDeepStored (toks tokens))
