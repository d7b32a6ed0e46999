-- Shapes: the nodes of contracts, whose parts are classes.
use Rattle.std.specs.Prelude.{ℕ, List}
use Rattle.poets_cons.specs.declared.bag.Bag.{Bag}
use Rattle.poets_cons.specs.declared.shape.Shape.{Shape as CodeShape}
use Rattle.poets_cons.specs.declared.shape.Shape.TheVariants as S
use Rattle.poets_cons.specs.Row.{Row, row_of}
use Rattle.poets_cons.specs.code.Bags.{bag_at}

-- a form other than `||`, whose numbers are classes, or the classes of parallel parts
pub data Shape : Type 0 where
  Single : Row → Shape
  Parallel : List ℕ → Shape

-- the shape, with the bags of a table
abbrev pub shape_of : List Bag → CodeShape → Shape
shape_of bags (S.Single node) = Single (row_of node)
shape_of bags (S.Parallel n) = Parallel (bag_at bags n)
