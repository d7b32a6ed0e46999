-- The document of what an engine was made with and of a history.
use Rattle.std.specs.Prelude.{ℕ, List}
use Rattle.poets_value.specs.Listed.{Listed}
use Rattle.poets_lex.specs.Table.{Table}
use Rattle.poets_command.specs.Calls.{history_of}
use Rattle.poets_command.specs.declared.call.Entry as code
use Rattle.poets_rules.specs.Rules.{book_of_rules, reports_of_rules}
use Rattle.poets_engine.specs.State.{State}
use Rattle.poets_top.specs.Exporting.{IsDocumentLine}

-- the line is the document of the engine's book, its reports and the history
abbrev pub ExportsAfter : State → Table → Listed code.Entry → List ℕ → Type 0
ExportsAfter e names history line =
    IsDocumentLine names (book_of_rules e.rules) (reports_of_rules e.rules) (history_of history.items) line
