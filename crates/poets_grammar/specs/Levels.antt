-- How tightly expressions hold their parts together.
use Rattle.std.specs.Prelude.{ℕ}
use Rattle.poets_expr.specs.declared.expr.Op.{Op}
use Rattle.poets_expr.specs.declared.expr.Op.TheVariants as O
use Rattle.poets_grammar.specs.declared.level.Level.{Level}
use Rattle.poets_grammar.specs.declared.level.Level.TheVariants as L

-- `or` 1, `and` 2, `not` 3, comparisons 4, sums 5, products 6, negation 7, all others 8
abbrev pub tightness : Level → ℕ
tightness L.Disjunction = 1
tightness L.Conjunction = 2
tightness L.Negation = 3
tightness L.Comparison = 4
tightness L.Sum = 5
tightness L.Product = 6
tightness L.Prefixed = 7
tightness L.Primary = 8

-- the level of an operator between two operands
abbrev pub level_of : Op → Level
level_of O.Or = L.Disjunction
level_of O.And = L.Conjunction
level_of O.Eq = L.Comparison
level_of O.Ne = L.Comparison
level_of O.Lt = L.Comparison
level_of O.Le = L.Comparison
level_of O.Gt = L.Comparison
level_of O.Ge = L.Comparison
level_of O.Add = L.Sum
level_of O.Sub = L.Sum
level_of O.Mul = L.Product
level_of O.Div = L.Product
level_of O.Rem = L.Product

abbrev pub op_level : Op → ℕ
op_level o = tightness (level_of o)
