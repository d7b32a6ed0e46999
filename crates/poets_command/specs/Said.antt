-- Statements as plain data.
use Rattle.std.specs.Prelude.{ℕ, List}
use Rattle.poets_value.specs.declared.value.Name.{Name}
use Rattle.poets_command.specs.Plain as plain

-- what a statement says
pub data Statement : Type 0 where
  Agents : List Name → Statement
  Kinds : List Name → Statement
  Template : plain.Template → Statement
  Report : plain.Report → Statement
  Clerk : Statement
  Journal : Statement
  Command : plain.Command → Statement
  Numbered : (clerk : ℕ) → plain.Command → Statement
