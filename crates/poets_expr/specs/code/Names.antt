-- Names in environments and expressions of the code.
use Rattle.std.specs.Prelude.{List, Option, reverse}
use Rattle.poets_value.specs.declared.value.Name.{Name}
use Rattle.poets_value.specs.declared.value.Value.{Value}
use Rattle.poets_expr.specs.declared.env.Env.{Env}
use Rattle.poets_expr.specs.declared.expr.Expr.{Expr}
use Rattle.poets_expr.specs.Env.{declared_of, value_in}
use Rattle.poets_expr.specs.Expression.{expression_of}
use Rattle.poets_expr.specs.Free.{names_of}

-- what a name stands for in an environment, of whose pairs a later one hides an earlier
abbrev pub value_of_name : Env → Name → Option Value
value_of_name env name = value_in (declared_of env.decls.now.names) (reverse env.pairs.now) name

-- the names in an `Expr`, in order, each as often as it occurs
abbrev pub names_in : Expr → List Name
names_in e = names_of (expression_of e)
