-- The text of a command with its clerk's number, as in a journal, and its laws.
use Rattle.std.specs.Prelude.{ℕ, ◌+◌, ◌*◌, ◌^◌, ◌<◌, ◌≤◌, List, ◌++◌, length, codes}
use Rattle.std.specs.Fmt.{decimal}
use Rattle.poets_command.specs.Plain.{Command}
use Rattle.poets_command.specs.Said.{Numbered}
use Rattle.poets_command.specs.Taken.{IsWholeCommand}
use Rattle.poets_lex.specs.declared.token.Tok.{Tok}
use Rattle.poets_lex.specs.declared.token.Token.{Token}
use Rattle.poets_lex.specs.Table.{Table, IsTable}
use Rattle.poets_lex.specs.Lexes.{Lexes}
use Rattle.poets_grammar.specs.Tokens.{toks}
use Rattle.poets_grammar.specs.TooDeep.{IsTooDeep, IsTooDeepStored}
use Rattle.poets_grammar.specs.Statements.{IsCommand, IsStatement}
use Rattle.poets_print.specs.Lines.{command_text}
use Rattle.poets_print.specs.Laws.{CanWriteCommand, CanWriteNumberOf}

-- `1: show deal`
abbrev pub numbered_text : Table → ℕ → Command → List ℕ
numbered_text names clerk command = decimal clerk ++ codes ": " ++ command_text names command

-- a command that was not too deep prints with its clerk's number as a text that is cut into tokens,
-- without a new name; the tokens are that statement, and not too deep for a stored one
abbrev pub NumberedReadsBack : Type 0
NumberedReadsBack =
    (names : Table) (clerk : ℕ) (command : Command) (read : List Tok) →
    IsTable names → clerk < 2 ^ 63 → IsWholeCommand command → CanWriteCommand names command → IsCommand read command →
    ¬ (IsTooDeep read) →
    (tokens : List Token) × Lexes names (numbered_text names clerk command) 0 tokens names
    × IsStatement (toks tokens) (Numbered clerk command) × ¬ (IsTooDeepStored (toks tokens))

-- a command prints with its clerk's number as at most 80 bytes for each token that it was read
-- from, and 12 more
abbrev pub NumberedAreShort : Type 0
NumberedAreShort =
    (names : Table) (clerk : ℕ) (read : List Tok) (command : Command) →
    IsTable names → clerk < 2 ^ 32 → IsWholeCommand command → CanWriteNumberOf command → IsCommand read command →
    length (numbered_text names clerk command) ≤ 80 * length read + 12
