-- Which templates may end: by no step, or by granted steps.
use Rattle.std.specs.Prelude.{◌≡◌, ℕ, Bool, true, false, ◌&&◌, ◌||◌, [], IsTrue, ◌↔◌}
use Rattle.std.specs.BTreeSet.{BTreeSet, contains}
use Rattle.poets_value.specs.declared.value.Name.{Name}
use Rattle.poets_value.specs.Names.{name_cmp}
use Rattle.poets_syntax.specs.declared.term.Book.{Book as TheBook}
use Rattle.poets_syntax.specs.Book.{book_of}
use Rattle.poets_syntax.specs.Contract.{Contract, Success, Failure, Transmit, Plus, Par, Seq, App}
use Rattle.poets_syntax.specs.Plain.{Book}
use Rattle.poets_meaning.specs.May.{May}
use Rattle.poets_meaning.specs.Marks.{BodySatisfies}

-- whether a contract may end, where `says` tells it of templates; where steps are granted, after
-- transmits too
abbrev pub ends : (granted : Bool) → (says : Name → Bool) → Contract → Bool
ends granted says Success = true
ends granted says Failure = false
ends granted says (Transmit b p c) = granted && ends granted says c
ends granted says (Plus a b) = ends granted says a || ends granted says b
ends granted says (Par a b) = ends granted says a && ends granted says b
ends granted says (Seq a b) = ends granted says a && ends granted says b
ends granted says (App f args) = says f

-- granted steps alone perform the contract, and no step does where none is granted
abbrev pub MayEnd : Book → (granted : Bool) → Contract → Type 0
MayEnd book granted c = (n : ℕ) × May book [] c [] n × (granted ≡ false → n ≡ 0)

-- each template that is said to may end
abbrev pub IsSound : Book → (granted : Bool) → (says : Name → Bool) → Type 0
IsSound book granted says = (f : Name) → says f ≡ true → BodySatisfies book (MayEnd book granted) f

-- exactly the templates that may end are said to
abbrev pub IsExact : Book → (granted : Bool) → (says : Name → Bool) → Type 0
IsExact book granted says = (f : Name) → IsTrue (says f) ↔ BodySatisfies book (MayEnd book granted) f

-- the set has exactly the names of the templates that may end: by granted steps, or by no step
-- where none is granted
abbrev pub AreThoseThatEnd : TheBook → (granted : Bool) → BTreeSet Name → Type 0
AreThoseThatEnd book granted names = IsExact (book_of book) granted (contains name_cmp names)
