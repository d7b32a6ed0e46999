-- What steps mean.
use Rattle.std.specs.Prelude.{◌≡◌, ◌≢◌, List, [], ◌∷◌, ◌++◌, ◌↔◌, All, Any}
use Rattle.poets_value.specs.declared.event.Event.{Event}
use Rattle.poets_syntax.specs.Contract.{Contract, Failure}
use Rattle.poets_syntax.specs.Plain.{Book}
use Rattle.poets_syntax.specs.Book.{taken}
use Rattle.poets_syntax.specs.Applied.{CountsFit}
use Rattle.poets_syntax.specs.WellFormed.{IsWellFormed, IsDeclaredEvent}
use Rattle.poets_meaning.specs.Marks.{Marks}
use Rattle.poets_meaning.specs.Perf.{Holds}
use Rattle.poets_calculus.specs.Normal.{normal}
use Rattle.poets_calculus.specs.Residual.{after, residual_after}
use Rattle.poets_residue.specs.Unfolding.{IsStudied}
use Rattle.poets_open.specs.Next.{Step, next}

-- the predicate of one of the steps holds of the event
abbrev pub SomeStepHolds : Book → Event → List Step → Type 0
SomeStepHolds book e steps = Any (λ t. Holds book (taken t.binders e []) t.when) steps

-- the predicate of one of the contract's steps holds of the event
abbrev pub HasStepFor : Book → Marks → Event → Contract → Type 0
HasStepFor book marks e c = SomeStepHolds book e (next book marks c)

-- after a declared event a contract in normal form is not `Failure` exactly where one of its steps
-- holds of the event
abbrev pub OpenForEvents : Type 0
OpenForEvents = (book : Book) (marks : Marks) (e : Event) (c : Contract) →
    IsStudied book marks → IsWellFormed book.declared c → CountsFit book c → normal book marks c ≡ c →
    IsDeclaredEvent book.declared e → (after book marks e c ≢ Failure) ↔ HasStepFor book marks e c

-- after a trace and one more declared event what is owed is not `Failure` exactly where one of the
-- steps of what was owed after the trace holds of the event
abbrev pub OpenAfterTrace : Type 0
OpenAfterTrace = (book : Book) (marks : Marks) (o : Contract) (s : List Event) (e : Event) →
    IsStudied book marks → IsWellFormed book.declared o → CountsFit book o → All (IsDeclaredEvent book.declared) s →
    IsDeclaredEvent book.declared e →
    (residual_after book marks o (s ++ e ∷ []) ≢ Failure) ↔ HasStepFor book marks e (residual_after book marks o s)
