-- What normal forms mean.
use Rattle.std.specs.Prelude.{◌≡◌, ℕ, List, ◌↔◌}
use Rattle.poets_value.specs.declared.event.Event.{Event}
use Rattle.poets_value.specs.declared.value.Name.{Name}
use Rattle.poets_expr.specs.Env.{Declared, Env}
use Rattle.poets_expr.specs.Fold.{KeepsDeclared}
use Rattle.poets_syntax.specs.Contract.{Contract, Failure}
use Rattle.poets_syntax.specs.Plain.{Book}
use Rattle.poets_syntax.specs.Whole.{IsWholeContract}
pub use Rattle.poets_syntax.specs.Applied.{CountsFit}
use Rattle.poets_syntax.specs.WellFormed.{IsWellFormed, AreWellFormed}
use Rattle.poets_syntax.specs.TypeOf.{Scope}
use Rattle.poets_syntax.specs.Typing.{IsTyped}
use Rattle.poets_syntax.specs.OfType.{IsUndeclaredScope}
use Rattle.poets_meaning.specs.May.{May}
use Rattle.poets_meaning.specs.Marks.{Marks, AreRight, Hopeful}
use Rattle.poets_meaning.specs.NoTemplates.{without_templates, no_marks}
use Rattle.poets_calculus.specs.Normal.{normal}

-- the normal form is performed as the contract is, where declared names stand for themselves
abbrev pub NormalAlike : Type 0
NormalAlike = (book : Book) (marks : Marks) (env : Env) (c : Contract) (s : List Event) (n : ℕ) →
    AreRight book marks → KeepsDeclared book.declared env → IsWellFormed book.declared c →
    May book env (normal book marks c) s n ↔ May book env c s n

-- the normal form is `Failure` exactly where no number of granted steps performs the contract
abbrev pub NormalHopeless : Type 0
NormalHopeless = (book : Book) (marks : Marks) (c : Contract) →
    AreRight book marks → IsWellFormed book.declared c → CountsFit book c →
    (normal book marks c ≡ Failure) ↔ ¬ (Hopeful book c)

-- the normal form of a normal form is itself
abbrev pub NormalTwice : Type 0
NormalTwice = (book : Book) (marks : Marks) (c : Contract) →
    normal book marks (normal book marks c) ≡ normal book marks c

-- the normal form of a whole contract is whole
abbrev pub NormalWhole : Type 0
NormalWhole = (book : Book) (marks : Marks) (c : Contract) → IsWholeContract c → IsWholeContract (normal book marks c)

-- the normal form of a well-formed contract is well-formed
abbrev pub NormalWellFormed : Type 0
NormalWellFormed = (book : Book) (marks : Marks) (c : Contract) → IsWellFormed book.declared c →
    IsWellFormed book.declared (normal book marks c)

-- where the numbers of arguments fit in a contract, they fit in its normal form
abbrev pub NormalCountsFit : Type 0
NormalCountsFit = (book : Book) (marks : Marks) (c : Contract) → CountsFit book c → CountsFit book (normal book marks c)

-- the normal form of a typed contract is typed in the same scope, whatever the book and the marks
-- are
abbrev pub NormalTyped : Type 0
NormalTyped = (book : Book) (reports : List Name) (marks : Marks) (scope : Scope) (c : Contract) →
    IsUndeclaredScope book.declared scope → IsTyped book reports scope c →
    IsTyped book reports scope (normal book marks c)

-- in a book without templates the marks that say no are right, and so is each count
abbrev pub PlainBooks : Type 0
PlainBooks = (declared : Declared) →
    AreRight (without_templates declared) no_marks × AreWellFormed (without_templates declared)
    × ((c : Contract) → CountsFit (without_templates declared) c)
