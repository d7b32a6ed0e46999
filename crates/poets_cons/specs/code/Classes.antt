-- Classes of rows: each has a shape, the form of its contracts with the classes of their parts.
use Rattle.std.specs.Prelude.{◌≡◌, ◌<◌, ◌≤◌, ℕ, Bool, Option, Some}
use Rattle.std.specs.Prelude.{List, [], ◌∷◌, ◌++◌, length, map, slice_get}
use Rattle.std.specs.List.{AllByRecursion, IsDistinct}
use Rattle.poets_syntax.specs.Contract.{Contract, Failure}
use Rattle.poets_calculus.specs.Alike.{Alike}
use Rattle.poets_calculus.specs.Normal.{side_by_side}
use Rattle.poets_cons.specs.contracts.shape.ShapePartialEq.TheImpl as shape_eq
use Rattle.poets_cons.specs.declared.classes.Classes.{Classes}
use Rattle.poets_cons.specs.declared.node.Node.{Node}
use Rattle.poets_cons.specs.declared.shape.Shape.{Shape as CodeShape}
use Rattle.poets_cons.specs.declared.bag.Bag.{Bag}
use Rattle.poets_cons.specs.Notes.{noted}
use Rattle.poets_cons.specs.Row.{Success, Par, contract_by, AreBelow}
use Rattle.poets_cons.specs.Table.{contract_at}
use Rattle.poets_cons.specs.code.Built.{item_at, built}
use Rattle.poets_cons.specs.code.Bags.{bag_at, AreBags, AreSame}
pub use Rattle.poets_cons.specs.code.Shape.{Shape, Single, Parallel, shape_of}

-- the contract of a shape, from those of its classes
abbrev pub contract_of_shape : (ℕ → Contract) → Shape → Contract
contract_of_shape part (Single r) = contract_by part r
contract_of_shape part (Parallel ks) = side_by_side (map part ks)

-- the contract of the class with a number
abbrev pub class_contract : List Shape → ℕ → Contract
class_contract shapes k = item_at Failure (built Failure contract_of_shape [] shapes) k

-- the shape of the class with a number
abbrev pub shape_at : List Shape → ℕ → Shape
shape_at shapes k = item_at (Single Success) shapes k

-- the shape is that of a form other than `||`
abbrev pub IsSingle : Shape → Type 0
IsSingle (Single (Par a b)) = ⊥
IsSingle (Single r) = Unit {0}
IsSingle (Parallel ks) = ⊥

-- the numbers are those of earlier classes that are single
abbrev pub AreSingles : (ℕ → Shape) → ℕ → List ℕ → Type 0
AreSingles shape n ks = AllByRecursion (λ k. (k < n) × IsSingle (shape k)) ks

-- the class with a number may have this shape: it names earlier classes alone, and its parallel
-- parts, of which there are two at least, have single classes
abbrev pub IsShapeAt : (ℕ → Shape) → ℕ → Shape → Type 0
IsShapeAt shape n (Single r) = IsSingle (Single r) × AreBelow n r
IsShapeAt shape n (Parallel ks) = (2 ≤ length ks) × AreSingles shape n ks

-- each shape is right
abbrev pub AreShapes : List Shape → Type 0
AreShapes shapes = (i : ℕ) (s : Shape) → slice_get shapes i ≡ Some s → IsShapeAt (shape_at shapes) i s

-- the contract is alike to that of the class
abbrev pub HasClass : List Shape → Contract → ℕ → Type 0
HasClass shapes c k = (k < length shapes) × Alike c (class_contract shapes k)

-- the shapes are right, and each row that has a class is alike to it
pub record AreClasses (nodes : List Node) (shapes : List Shape) (classes : ℕ → Option ℕ) : Type 0 where
  pub right : AreShapes shapes
  pub rows : (i k : ℕ) → classes i ≡ Some k → (i < length nodes) × HasClass shapes (contract_at nodes i) k

-- the code's test for equal shapes
abbrev pub same_shape : CodeShape → CodeShape → Bool
same_shape = (shape_eq.ghosts).eq

-- the shapes of classes that are known
abbrev pub shapes_of : Classes → List Shape
shapes_of known = map (shape_of known.bags.keys) known.shapes.keys

-- the classes of a table's rows that are known are right, and no two have one shape
pub record AreKnown (nodes : List Node) (known : Classes) : Type 0 where
  pub classes : AreClasses nodes (shapes_of known) (noted known.classes)
  pub bags : AreBags known.bags.keys
  pub distinct : IsDistinct same_shape known.shapes.keys

-- the shape is one that a class of the row can have
abbrev pub IsShapeOf : List Node → Classes → (place : ℕ) → CodeShape → Type 0
IsShapeOf nodes known place code =
    let s = shape_of known.bags.keys code in
    IsShapeAt (shape_at (shapes_of known)) (length (shapes_of known)) s
    × Alike (contract_at nodes place) (contract_of_shape (class_contract (shapes_of known)) s)

-- the parallel parts of a class: those of its shape, or the class itself
abbrev pub parts_of : (class : ℕ) → Shape → List ℕ
parts_of class (Single r) = class ∷ []
parts_of class (Parallel ks) = ks

-- those of the class with a number, with the bags of a table
abbrev pub parts_at : List Bag → List CodeShape → (class : ℕ) → List ℕ
parts_at bags shapes class = parts_of class (shape_at (map (shape_of bags) shapes) class)

-- the bag with the last number has the parts of the class, by the bags before
abbrev pub IsBagOfClass : (old new : List Bag) → List CodeShape → (class bag : ℕ) → Type 0
IsBagOfClass old new shapes class n = (n ≤ length new) × (bag_at new n ≡ parts_at old shapes class)

-- it counts those of two classes
abbrev pub IsBagOfClasses : (old new : List Bag) → List CodeShape → (a b bag : ℕ) → Type 0
IsBagOfClasses old new shapes a b n =
    (n ≤ length new) × AreSame (bag_at new n) (parts_at old shapes a ++ parts_at old shapes b)
