-- Steps that are listed one by one.
use Rattle.std.specs.Prelude.{◌≡◌, Bool, List, [], ◌∷◌, ◌++◌, fold, map, if◌then◌else◌}
use Rattle.std.specs.List.{list_any}
use Rattle.poets_expr.specs.Expression.{Expression}
use Rattle.poets_syntax.specs.declared.term.Binders.{Binders}
use Rattle.poets_syntax.specs.Book.{book_of}
use Rattle.poets_syntax.specs.Contract.{Contract}
use Rattle.poets_meaning.specs.Studied.{StudiedBook, marks_of}
use Rattle.poets_residue.specs.Once.{ready}
use Rattle.poets_open.specs.Next.{Step, step_of, same_step, steps_in}
use Rattle.poets_open.specs.declared.opening.Step.{Step as OpenStep}

-- whether an equal step is listed
abbrev pub is_listed : List Step → Step → Bool
is_listed steps t = list_any (λ s. same_step s t) steps

-- the steps with one more at the end, unless it is listed
abbrev pub added : List Step → Step → List Step
added steps t = if is_listed steps t then steps else steps ++ t ∷ []

-- the steps with more, one by one
abbrev pub added_all : List Step → List Step → List Step
added_all steps more = fold added steps more

-- the step was listed, unless it was there
abbrev pub Lists : (old new : List OpenStep) → Step → Type 0
Lists old new t = map step_of new ≡ added (map step_of old) t

-- the steps were listed one by one
abbrev pub ListsAll : (old new : List OpenStep) → List Step → Type 0
ListsAll old new more = map step_of new ≡ added_all (map step_of old) more

-- the step of a transmit
abbrev pub step : Binders → Expression → Step
step b p = record { binders = b; when = p }

-- the steps of a contract in a studied book, also those that are equal
abbrev pub opened_in : StudiedBook → Contract → List Step
opened_in s c = steps_in (ready (book_of s.book) (marks_of s) c)
