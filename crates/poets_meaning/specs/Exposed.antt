-- Exposed applications: those outside every transmit, and not after a part that is not nullable.
use Rattle.std.specs.Prelude.{◌≡◌, true, List}
use Rattle.poets_value.specs.declared.value.Name.{Name}
use Rattle.poets_expr.specs.Expression.{Expression}
use Rattle.poets_syntax.specs.Contract.{Contract, Success, Failure, Transmit, Plus, Par, Seq, App}
use Rattle.poets_meaning.specs.Marks.{Marks, nullable}

-- this holds of each exposed application
abbrev pub EachExposed : (Name → List Expression → Type 0) → Marks → Contract → Type 0
EachExposed Is marks Success = Unit {0}
EachExposed Is marks Failure = Unit {0}
EachExposed Is marks (Transmit b p c) = Unit {0}
EachExposed Is marks (Plus c₁ c₂) = EachExposed Is marks c₁ × EachExposed Is marks c₂
EachExposed Is marks (Par c₁ c₂) = EachExposed Is marks c₁ × EachExposed Is marks c₂
EachExposed Is marks (Seq c₁ c₂) = EachExposed Is marks c₁ × (nullable marks c₁ ≡ true → EachExposed Is marks c₂)
EachExposed Is marks (App f args) = Is f args
