-- The law of how deep a printed command is.
use Rattle.std.specs.Prelude.{List}
use Rattle.poets_command.specs.Plain as plain
use Rattle.poets_command.specs.Taken.{IsWholeCommand}
use Rattle.poets_lex.specs.declared.token.Tok.{Tok}
use Rattle.poets_lex.specs.declared.token.Token.{Token}
use Rattle.poets_lex.specs.Table.{Table, IsTable}
use Rattle.poets_lex.specs.Lexes.{Lexes}
use Rattle.poets_grammar.specs.Tokens.{toks}
use Rattle.poets_grammar.specs.TooDeep.{IsTooDeep, IsTooDeepStored}
use Rattle.poets_grammar.specs.Statements.{IsCommand}
use Rattle.poets_print.specs.Lines.{command_text}
use Rattle.poets_print.specs.Laws.{CanWriteCommand}

-- what is printed of a command that was not too deep is not too deep for a stored one
abbrev pub NeverTooDeepStored : Type 0
NeverTooDeepStored =
    (names : Table) (command : plain.Command) (read : List Tok) →
    IsTable names → IsWholeCommand command → CanWriteCommand names command → IsCommand read command →
    ¬ (IsTooDeep read) →
    (tokens : List Token) × Lexes names (command_text names command) 0 tokens names × ¬ (IsTooDeepStored (toks tokens))
