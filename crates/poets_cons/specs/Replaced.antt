-- The contracts of rows, with names replaced.
use Rattle.std.specs.Prelude.{ℕ, List, reverse}
use Rattle.poets_value.specs.declared.value.Name.{Name}
use Rattle.poets_expr.specs.declared.expr.Given.{Given}
use Rattle.poets_syntax.specs.Contract.{Contract}
use Rattle.poets_syntax.specs.Replace.{replace}
use Rattle.poets_cons.specs.declared.node.Node.{Node}
use Rattle.poets_cons.specs.Table.{contract_at}

-- the contract of the row with a number, its names replaced, where a later pair hides an earlier
-- one
abbrev pub replaced_at : List (Name × Given) → List Node → ℕ → Contract
replaced_at pairs nodes i = replace (reverse pairs) (contract_at nodes i)
