-- Commands as the functions that make them are handed their parts.
use Rattle.std.specs.Prelude.{List, map}
use Rattle.std.specs.declared.alloc.Global.{Global}
use Rattle.std.specs.declared.sync.Arc.{Arc}
use Rattle.std.specs.Arc.{arc_value}
use Rattle.poets_value.specs.declared.value.Name.{Name}
use Rattle.poets_expr.specs.declared.expr.Expr.{Expr}
use Rattle.poets_expr.specs.Expression.{expression_of}
use Rattle.poets_syntax.specs.Contract.{contract_of}
use Rattle.poets_syntax.specs.declared.term.Term.{Term}
use Rattle.poets_command.specs.Plain.{Command}

-- the command to register the contract under the name
abbrev pub registration_of : Name → Arc Term Global → Command
registration_of x term = Command.Register x (contract_of (arc_value term))

-- the command to tally the report with the name for these arguments
abbrev pub tally_of : Name → List Expr → Command
tally_of x args = Command.Tally x (map expression_of args)

-- the command to make the portfolio of the report with the name for these arguments, over the
-- contracts with these names
abbrev pub portfolio_of : Name → List Expr → List Name → Command
portfolio_of x args over = Command.Portfolio x (map expression_of args) over

-- the command to watch the report with the name for these arguments
abbrev pub watch_of : Name → List Expr → Command
watch_of x args = Command.Watch x (map expression_of args)
