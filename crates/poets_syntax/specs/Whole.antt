-- What is whole: each number in it is a whole number of the language, and each day one of its days.
use Rattle.std.specs.Prelude.{All}
use Rattle.poets_expr.specs.Whole.{IsWholeExpression}
use Rattle.poets_syntax.specs.Contract.{Contract, Success, Failure, Transmit, Plus, Par, Seq, App}
use Rattle.poets_syntax.specs.Plain.{Book}

-- the expressions in the contract are whole
abbrev pub IsWholeContract : Contract → Type 0
IsWholeContract Success = Unit {0}
IsWholeContract Failure = Unit {0}
IsWholeContract (Transmit b p c) = IsWholeExpression p × IsWholeContract c
IsWholeContract (Plus c₁ c₂) = IsWholeContract c₁ × IsWholeContract c₂
IsWholeContract (Par c₁ c₂) = IsWholeContract c₁ × IsWholeContract c₂
IsWholeContract (Seq c₁ c₂) = IsWholeContract c₁ × IsWholeContract c₂
IsWholeContract (App f args) = All IsWholeExpression args

-- the bodies of the templates are whole
abbrev pub IsWholeBook : Book → Type 0
IsWholeBook book = All (λ t. IsWholeContract t.body) book.templates
