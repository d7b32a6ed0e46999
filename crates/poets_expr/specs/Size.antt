-- The number of nodes of an expression: each literal and each name is one node.
use Rattle.std.specs.Prelude.{ℕ, ◌+◌, List, [], ◌∷◌}
use Rattle.poets_expr.specs.Expression.{Expression, Literal, Undefined, Named, Unary, Make, Binary}
use Rattle.poets_expr.specs.Expression.{If}

-- the number of nodes of an expression
abbrev pub nodes : Expression → ℕ
nodes (Literal v) = 1
nodes (Undefined t) = 1
nodes (Named x) = 1
nodes (Unary o a) = 1 + nodes a
nodes (Make a b) = 1 + nodes a + nodes b
nodes (Binary o a b) = 1 + nodes a + nodes b
nodes (If a b c) = 1 + nodes a + nodes b + nodes c

-- the number of nodes of several expressions
abbrev pub nodes_of_all : List Expression → ℕ
nodes_of_all [] = 0
nodes_of_all (a ∷ args) = nodes a + nodes_of_all args
