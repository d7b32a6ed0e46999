-- The size of a contract, and its width: the size, where applications in unguarded positions count
-- with the bodies of their templates.
use Rattle.std.specs.Prelude.{ℕ, zero, suc, ◌+◌, min, Option, Some, None, length, if◌then◌else◌}
use Rattle.poets_value.specs.declared.value.Name.{Name}
use Rattle.poets_expr.specs.Size.{nodes, nodes_of_all}
use Rattle.poets_syntax.specs.Contract.{Contract, Success, Failure, Transmit, Plus, Par, Seq, App}
use Rattle.poets_syntax.specs.Plain.{Book, Template}
use Rattle.poets_syntax.specs.Book.{template_in}
use Rattle.poets_meaning.specs.Marks.{Marks, nullable}
use Rattle.poets_meaning.specs.declared.sizes.TheConstants.{WIDEST}

-- each node of the contract and of its expressions counts 1; binders count nothing
abbrev pub size : Contract → ℕ
size Success = 1
size Failure = 1
size (Transmit b p c) = 1 + nodes p + size c
size (Plus a b) = 1 + size a + size b
size (Par a b) = 1 + size a + size b
size (Seq a b) = 1 + size a + size b
size (App f args) = 1 + nodes_of_all args

-- the width, where `of_body` gives that of a template's body
abbrev pub wide_by : (Name → ℕ) → Marks → Contract → ℕ
wide_by of_body marks Success = 1
wide_by of_body marks Failure = 1
wide_by of_body marks (Transmit b p c) = 1 + nodes p + size c
wide_by of_body marks (Plus a b) = 1 + wide_by of_body marks a + wide_by of_body marks b
wide_by of_body marks (Par a b) = 1 + wide_by of_body marks a + wide_by of_body marks b
wide_by of_body marks (Seq a b) =
    1 + wide_by of_body marks a + (if nullable marks a then wide_by of_body marks b else size b)
wide_by of_body marks (App f args) = 1 + nodes_of_all args + of_body f

-- the measure of a template's body, or 0 where there is no template
abbrev pub body_in : Option Template → (Contract → ℕ) → ℕ
body_in None measure = 0
body_in (Some t) measure = measure t.body

-- the width with at most so many unfoldings in a row
abbrev pub wide_at : ℕ → Book → Marks → Contract → ℕ
wide_at zero book marks c = wide_by (λ _. 0) marks c
wide_at (suc d) book marks c = wide_by (λ f. body_in (template_in book.templates f) (wide_at d book marks)) marks c

-- the width: in a guarded book there are no more unfoldings in a row than templates
abbrev pub width : Book → Marks → Contract → ℕ
width book marks c = wide_at (length book.templates) book marks c

-- the greatest spread of a contract that is kept, past which widths are not told apart
abbrev pub widest : ℕ
widest = WIDEST

-- a width as it is measured: cut at one more than the greatest spread
abbrev pub cut : ℕ → ℕ
cut n = min n (1 + widest)
