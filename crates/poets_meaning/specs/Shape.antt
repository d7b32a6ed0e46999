-- Contracts of one shape.
use Rattle.std.specs.Prelude.{◌≡◌, List, length}
use Rattle.poets_value.specs.declared.value.Name.{Name}
use Rattle.poets_expr.specs.Expression.{Expression}
use Rattle.poets_syntax.specs.declared.term.Binders.{Binders}
use Rattle.poets_syntax.specs.Contract.{Contract}

-- the same forms and the same templates; binders, predicates and arguments may differ
pub data SameShape : Contract → Contract → Type 0 where
  Success : SameShape Contract.Success Contract.Success
  Failure : SameShape Contract.Failure Contract.Failure
  Transmit :
      {b₁ b₂ : Binders} {p₁ p₂ : Expression} {c₁ c₂ : Contract} →
      SameShape c₁ c₂ → SameShape (Contract.Transmit b₁ p₁ c₁) (Contract.Transmit b₂ p₂ c₂)
  Plus :
      {c₁ c₂ d₁ d₂ : Contract} → SameShape c₁ c₂ → SameShape d₁ d₂ →
      SameShape (Contract.Plus c₁ d₁) (Contract.Plus c₂ d₂)
  Par :
      {c₁ c₂ d₁ d₂ : Contract} → SameShape c₁ c₂ → SameShape d₁ d₂ →
      SameShape (Contract.Par c₁ d₁) (Contract.Par c₂ d₂)
  Seq :
      {c₁ c₂ d₁ d₂ : Contract} → SameShape c₁ c₂ → SameShape d₁ d₂ →
      SameShape (Contract.Seq c₁ d₁) (Contract.Seq c₂ d₂)
  App :
      {f : Name} {args₁ args₂ : List Expression} →
      length args₁ ≡ length args₂ → SameShape (Contract.App f args₁) (Contract.App f args₂)
