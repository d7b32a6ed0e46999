-- Nullable and hopeful contracts, and the marks of the templates that are.
use Rattle.std.specs.Prelude.{◌≡◌, ℕ, Bool, true, false, ◌&&◌, ◌||◌, [], Some, IsTrue, ◌↔◌}
use Rattle.poets_value.specs.declared.value.Name.{Name}
use Rattle.poets_syntax.specs.Contract.{Contract, Success, Failure, Transmit, Plus, Par, Seq, App}
use Rattle.poets_syntax.specs.Plain.{Book, Template}
use Rattle.poets_syntax.specs.Book.{template_in}
use Rattle.poets_meaning.specs.Perf.{Perf}
use Rattle.poets_meaning.specs.May.{May}

-- which templates are nullable and which are hopeful
pub record Marks : Type 0 where
  pub nullable : Name → Bool
  pub hopeful : Name → Bool

-- the empty trace performs the contract
abbrev pub Nullable : Book → Contract → Type 0
Nullable book c = Perf book [] c []

-- some number of granted steps performs the contract
abbrev pub Hopeful : Book → Contract → Type 0
Hopeful book c = (n : ℕ) × May book [] c [] n

-- there is a template of that name, and this holds of its body
abbrev pub BodySatisfies : Book → (Contract → Type 0) → Name → Type 0
BodySatisfies book Is f = (t : Template) × (template_in book.templates f ≡ Some t) × Is t.body

-- each mark is right: nullable exactly where the empty trace performs the template's body, hopeful
-- exactly where some number of granted steps does
pub record AreRight (book : Book) (marks : Marks) : Type 0 where
  pub nullable : (f : Name) → IsTrue (marks.nullable f) ↔ BodySatisfies book (Nullable book) f
  pub hopeful : (f : Name) → IsTrue (marks.hopeful f) ↔ BodySatisfies book (Hopeful book) f

-- whether the empty trace performs a contract, by the marks of its templates
abbrev pub nullable : Marks → Contract → Bool
nullable marks Success = true
nullable marks Failure = false
nullable marks (Transmit b p c) = false
nullable marks (Plus a b) = nullable marks a || nullable marks b
nullable marks (Par a b) = nullable marks a && nullable marks b
nullable marks (Seq a b) = nullable marks a && nullable marks b
nullable marks (App f args) = marks.nullable f
