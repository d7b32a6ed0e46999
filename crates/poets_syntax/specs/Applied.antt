-- Applications of templates with as many arguments as they have parameters.
use Rattle.std.specs.Prelude.{◌≡◌, ℕ, List, length, Some}
use Rattle.poets_value.specs.declared.value.Name.{Name}
use Rattle.poets_expr.specs.Expression.{Expression}
use Rattle.poets_syntax.specs.Contract.{Contract, Success, Failure, Transmit, Plus, Par, Seq, App}
use Rattle.poets_syntax.specs.Plain.{Book, Template}
use Rattle.poets_syntax.specs.Book.{template_in}

-- there is a template of that name with so many parameters
abbrev pub Takes : Book → Name → ℕ → Type 0
Takes book f n = (t : Template) × (template_in book.templates f ≡ Some t) × (length t.params ≡ n)

-- each application in the contract is of a template of the book, to as many arguments as it has
-- parameters
abbrev pub ApplicationsFit : Book → Contract → Type 0
ApplicationsFit book Success = Unit {0}
ApplicationsFit book Failure = Unit {0}
ApplicationsFit book (Transmit b p c) = ApplicationsFit book c
ApplicationsFit book (Plus c₁ c₂) = ApplicationsFit book c₁ × ApplicationsFit book c₂
ApplicationsFit book (Par c₁ c₂) = ApplicationsFit book c₁ × ApplicationsFit book c₂
ApplicationsFit book (Seq c₁ c₂) = ApplicationsFit book c₁ × ApplicationsFit book c₂
ApplicationsFit book (App f args) = Takes book f (length args)

-- each application in the body of a template is of a template of the book, to as many arguments as
-- it has parameters
abbrev pub BodiesFit : Book → Type 0
BodiesFit book = (f : Name) (t : Template) → template_in book.templates f ≡ Some t → ApplicationsFit book t.body

-- where there is a template of that name, it has as many parameters as there are arguments
abbrev pub FitsTemplate : Book → Name → List Expression → Type 0
FitsTemplate book f args = (t : Template) → template_in book.templates f ≡ Some t → length t.params ≡ length args

-- where the contract applies a template of the book, it is to as many arguments as that has
-- parameters
abbrev pub CountsFit : Book → Contract → Type 0
CountsFit book Success = Unit {0}
CountsFit book Failure = Unit {0}
CountsFit book (Transmit b p c) = CountsFit book c
CountsFit book (Plus c₁ c₂) = CountsFit book c₁ × CountsFit book c₂
CountsFit book (Par c₁ c₂) = CountsFit book c₁ × CountsFit book c₂
CountsFit book (Seq c₁ c₂) = CountsFit book c₁ × CountsFit book c₂
CountsFit book (App f args) = FitsTemplate book f args

-- where the body of a template applies a template of the book, it is to as many arguments as that
-- has parameters
abbrev pub BodiesCountsFit : Book → Type 0
BodiesCountsFit book = (f : Name) (t : Template) → template_in book.templates f ≡ Some t → CountsFit book t.body
