-- What is known of typed, well-formed and whole contracts, as statements.
use Rattle.std.specs.Prelude.{List}
use Rattle.poets_value.specs.declared.value.Name.{Name}
use Rattle.poets_expr.specs.Env.{Declared}
use Rattle.poets_expr.specs.Subst.{Givens}
use Rattle.poets_expr.specs.Whole.{AreWholeGivens}
use Rattle.poets_syntax.specs.Contract.{Contract}
use Rattle.poets_syntax.specs.Plain.{Book}
use Rattle.poets_syntax.specs.Whole.{IsWholeContract}
use Rattle.poets_syntax.specs.Replace.{replace, BindersAreUndeclared}
use Rattle.poets_syntax.specs.TypeOf.{Scope}
use Rattle.poets_syntax.specs.Typing.{IsTyped, IsTypedBook}
use Rattle.poets_syntax.specs.WellFormed.{IsWellFormed}
use Rattle.poets_syntax.specs.Applied.{ApplicationsFit, BodiesFit, CountsFit}

-- a well-formed contract binds no declared name
abbrev pub WellFormedBindsUndeclared : Type 0
WellFormedBindsUndeclared =
    (declared : Declared) (c : Contract) → IsWellFormed declared c → BindersAreUndeclared declared c

-- a whole contract stays whole where names are replaced by whole values
abbrev pub ReplacedIsWhole : Type 0
ReplacedIsWhole =
    (given : Givens) (c : Contract) → AreWholeGivens given → IsWholeContract c → IsWholeContract (replace given c)

-- a typed contract binds no declared name, and the literals in arguments of its applications are of
-- declared kinds
abbrev pub TypedIsWellFormed : Type 0
TypedIsWellFormed = (book : Book) (reports : List Name) (scope : Scope) (c : Contract) →
    IsTyped book reports scope c → IsWellFormed book.declared c

-- each application in a typed contract is of a template with as many parameters
abbrev pub TypedApplicationsFit : Type 0
TypedApplicationsFit = (book : Book) (reports : List Name) (scope : Scope) (c : Contract) →
    IsTyped book reports scope c → ApplicationsFit book c

-- each application in the bodies of a typed book is of a template with as many parameters
abbrev pub TypedBodiesFit : Type 0
TypedBodiesFit = (book : Book) (reports : List Name) → IsTypedBook book reports → BodiesFit book

-- where a typed contract applies a template, it is to as many arguments as the template has
-- parameters
abbrev pub TypedCountsFit : Type 0
TypedCountsFit = (book : Book) (reports : List Name) (scope : Scope) (c : Contract) →
    IsTyped book reports scope c → CountsFit book c

-- where each application is of a template with as many parameters, the numbers of arguments fit
abbrev pub CountsFitWhereKnown : Type 0
CountsFitWhereKnown = (book : Book) (c : Contract) → ApplicationsFit book c → CountsFit book c
