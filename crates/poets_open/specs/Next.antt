-- The open transmissions of a contract.
use Rattle.std.specs.Prelude.{Bool, not, ◌&&◌, List, [], ◌∷◌, filter}
use Rattle.poets_expr.specs.Expression.{Expression, expression_of}
use Rattle.poets_expr.specs.Same.{same}
use Rattle.poets_syntax.specs.declared.term.Binders.{Binders}
use Rattle.poets_syntax.specs.Contract.{Contract, Transmit}
use Rattle.poets_syntax.specs.Same.{same_binders}
use Rattle.poets_syntax.specs.Book.{book_of}
use Rattle.poets_syntax.specs.Plain.{Book}
use Rattle.poets_meaning.specs.Studied.{StudiedBook, marks_of}
use Rattle.poets_meaning.specs.Marks.{Marks}
use Rattle.poets_residue.specs.Once.{ready}
use Rattle.poets_open.specs.declared.opening.Step.{Step as OpenStep}

-- an open transmission: the names of the parts of the event that it takes, and its predicate
pub record Step : Type 0 where
  pub binders : Binders
  pub when : Expression

-- a step of the code as plain data
abbrev pub step_of : OpenStep → Step
step_of s = record { binders = s.binders; when = expression_of s.when }

-- the steps of the transmits in the list
abbrev pub steps_in : List Contract → List Step
steps_in [] = []
steps_in (Transmit b p c ∷ cs) = record { binders = b; when = p } ∷ steps_in cs
steps_in (_ ∷ cs) = steps_in cs

-- the same names before the same predicate
abbrev pub same_step : Step → Step → Bool
same_step s t = same_binders s.binders t.binders && same s.when t.when

-- of equal steps the first is kept
abbrev pub each_once : List Step → List Step
each_once [] = []
each_once (s ∷ steps) = s ∷ filter (λ t. not (same_step s t)) (each_once steps)

-- the open transmissions, each once: of what stands in unguarded positions of the contract and of
-- the bodies of its applications there (`ready`), the transmits
abbrev pub next : Book → Marks → Contract → List Step
next book marks c = each_once (steps_in (ready book marks c))

-- the open transmissions of a contract in a studied book (`next`)
abbrev pub next_in : StudiedBook → Contract → List Step
next_in s c = next (book_of s.book) (marks_of s) c
