-- How many evaluations a residual takes at most where each different part is derived once.
use Rattle.std.specs.Prelude.{◌≡◌, ℕ, zero, suc, ◌+◌, true, List, [], ◌∷◌, ◌++◌, length, sum_by}
use Rattle.std.specs.Prelude.{if◌then◌else◌}
use Rattle.std.specs.Set.{unique_keys}
use Rattle.std.specs.List.{list_any}
use Rattle.poets_value.specs.declared.value.Name.{Name}
use Rattle.poets_expr.specs.Expression.{Expression}
use Rattle.poets_syntax.specs.Contract.{Contract, Success, Failure, Transmit, Plus, Par, Seq, App}
use Rattle.poets_syntax.specs.Same.{same_contract}
use Rattle.poets_syntax.specs.Plain.{Book}
use Rattle.poets_syntax.specs.Book.{book_of, template_in}
use Rattle.poets_meaning.specs.Arguments.{arguments}
use Rattle.poets_meaning.specs.Marks.{Marks, nullable}
use Rattle.poets_meaning.specs.Studied.{StudiedBook, marks_of}
use Rattle.poets_meaning.specs.Width.{body_in}
use Rattle.poets_calculus.specs.Residual.{body_of}
use Rattle.poets_norm.specs.Questions.{operated}

-- the transmits and applications in unguarded positions, where `unfolded` gives those of an
-- application's body
abbrev pub ready_by : (Name → List Expression → List Contract) → Marks → Contract → List Contract
ready_by unfolded marks Success = []
ready_by unfolded marks Failure = []
ready_by unfolded marks (Transmit b p c) = Transmit b p c ∷ []
ready_by unfolded marks (Plus a b) = ready_by unfolded marks a ++ ready_by unfolded marks b
ready_by unfolded marks (Par a b) = ready_by unfolded marks a ++ ready_by unfolded marks b
ready_by unfolded marks (Seq a b) =
    ready_by unfolded marks a ++ (if nullable marks a then ready_by unfolded marks b else [])
ready_by unfolded marks (App f args) = App f args ∷ unfolded f args

-- the transmits and applications in unguarded positions, with at most so many unfoldings in a row
abbrev pub ready_at : ℕ → Book → Marks → Contract → List Contract
ready_at zero book marks c = ready_by (λ _ _. []) marks c
ready_at (suc d) book marks c =
    ready_by (λ f args. ready_at d book marks (body_of book marks (template_in book.templates f) args)) marks c

-- the transmits and applications in unguarded positions, unfolded bodies included: in a guarded
-- book there are no more unfoldings in a row than templates
abbrev pub ready : Book → Marks → Contract → List Contract
ready book marks c = ready_at (length book.templates) book marks c

-- the most evaluations of one of them: of a transmit its predicate and the arguments of its
-- continuation, of an application its own arguments that are neither literals nor names, and the
-- arguments of its template's body
abbrev pub asked_of : Book → Contract → ℕ
asked_of book (Transmit b p c) = 1 + arguments c
asked_of book (App f args) = sum_by operated args + body_in (template_in book.templates f) arguments
asked_of book _ = 0

-- the most evaluations that a residual of the contract takes: the sum over the different transmits
-- and applications in its unguarded positions
abbrev pub once : Book → Marks → Contract → ℕ
once book marks c = sum_by (asked_of book) (unique_keys same_contract (ready book marks c))

-- the most evaluations that a residual of the contract takes in a studied book (`once`)
abbrev pub once_in : StudiedBook → Contract → ℕ
once_in s c = once (book_of s.book) (marks_of s) c

-- the contract is one of the list
abbrev pub IsAmong : Contract → List Contract → Type 0
IsAmong c cs = list_any (same_contract c) cs ≡ true
