-- Rows: the nodes of a contract, whose parts are numbers of rows.
use Rattle.std.specs.Prelude.{◌≡◌, ◌<◌, ◌⊎◌, ℕ, List, map}
use Rattle.std.specs.Arc.{arc_value}
use Rattle.poets_value.specs.declared.value.Name.{Name}
use Rattle.poets_expr.specs.Expression.{Expression, expression_of}
use Rattle.poets_syntax.specs.declared.term.Binders.{Binders}
use Rattle.poets_syntax.specs.Contract.{Contract}
use Rattle.poets_syntax.specs.Contract as C
use Rattle.poets_cons.specs.declared.node.Node.{Node}
use Rattle.poets_cons.specs.declared.node.Node.TheVariants as N

-- the seven forms
pub data Row : Type 0 where
  Success : Row
  Failure : Row
  Transmit : Binders → Expression → ℕ → Row
  Plus : ℕ → ℕ → Row
  Par : ℕ → ℕ → Row
  Seq : ℕ → ℕ → Row
  App : Name → List Expression → Row

-- the row of a `Node`
abbrev pub row_of : Node → Row
row_of N.Success = Success
row_of N.Failure = Failure
row_of (N.Transmit b e c) = Transmit b (expression_of (arc_value e)) c
row_of (N.Plus a b) = Plus a b
row_of (N.Par a b) = Par a b
row_of (N.Seq a b) = Seq a b
row_of (N.App f args) = App f (map expression_of (arc_value args).items)

-- the contract of a row, from those of its parts
abbrev pub contract_by : (ℕ → Contract) → Row → Contract
contract_by part Success = C.Success
contract_by part Failure = C.Failure
contract_by part (Transmit b p c) = C.Transmit b p (part c)
contract_by part (Plus a b) = C.Plus (part a) (part b)
contract_by part (Par a b) = C.Par (part a) (part b)
contract_by part (Seq a b) = C.Seq (part a) (part b)
contract_by part (App f args) = C.App f args

-- the number is one of those that the row names
abbrev pub IsPart : Row → ℕ → Type 0
IsPart (Transmit b p c) k = k ≡ c
IsPart (Plus a b) k = (k ≡ a) ⊎ (k ≡ b)
IsPart (Par a b) k = (k ≡ a) ⊎ (k ≡ b)
IsPart (Seq a b) k = (k ≡ a) ⊎ (k ≡ b)
IsPart _ k = ⊥

-- the numbers that the row names are below a number
abbrev pub AreBelow : ℕ → Row → Type 0
AreBelow n (Transmit b p c) = c < n
AreBelow n (Plus a b) = (a < n) × (b < n)
AreBelow n (Par a b) = (a < n) × (b < n)
AreBelow n (Seq a b) = (a < n) × (b < n)
AreBelow n _ = Unit {0}
