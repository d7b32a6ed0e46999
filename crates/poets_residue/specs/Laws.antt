-- What residuals mean.
use Rattle.std.specs.Prelude.{◌≡◌, ◌≢◌, ℕ, ◌≤◌, List, [], ◌∷◌, ◌++◌, All, length, ◌↔◌}
use Rattle.poets_value.specs.declared.event.Event.{Event}
use Rattle.poets_value.specs.Whole.{IsWholeEvent, IsWholeTrace}
use Rattle.poets_value.specs.declared.value.Name.{Name}
use Rattle.poets_expr.specs.Expression.{Expression}
use Rattle.poets_syntax.specs.Contract.{Contract, Failure, App}
use Rattle.poets_syntax.specs.Plain.{Book}
use Rattle.poets_syntax.specs.Book.{template_in}
use Rattle.poets_syntax.specs.Whole.{IsWholeContract, IsWholeBook}
use Rattle.poets_syntax.specs.WellFormed.{IsWellFormed, IsDeclaredEvent, AreWellFormed}
use Rattle.poets_syntax.specs.Applied.{CountsFit, BodiesCountsFit}
use Rattle.poets_meaning.specs.declared.studied.Mark.{Mark}
use Rattle.poets_meaning.specs.Perf.{Perf}
use Rattle.poets_meaning.specs.May.{May}
use Rattle.poets_meaning.specs.Marks.{Marks, AreRight}
use Rattle.poets_meaning.specs.Guarded.{IsGuarded}
use Rattle.poets_meaning.specs.Studied.{marks_in, IsStudiedBook}
use Rattle.poets_calculus.specs.Normal.{normal}
use Rattle.poets_calculus.specs.Residual.{After, after_at, after, body_of, residual_after}
use Rattle.poets_residue.specs.Once.{ready_by, ready_at, ready}
use Rattle.poets_residue.specs.Unfolding.{UnfoldsWithin, IsStudied}

-- a book that was studied meets what the laws of residuals require of a book
abbrev pub StudiedBooks : Type 0
StudiedBooks = (book : Book) (marks : List Mark) →
    IsStudiedBook book marks → IsStudied book (marks_in book.templates marks)

-- the residual is performed by what may follow the event
abbrev pub ResidualFollows : Type 0
ResidualFollows = (book : Book) (marks : Marks) (e : Event) (c r : Contract) (s : List Event) (n : ℕ) →
    AreRight book marks → AreWellFormed book → IsDeclaredEvent book.declared e → IsWellFormed book.declared c →
    After book marks e c r → May book [] r s n ↔ May book [] c (e ∷ s) n

-- there is one residual at most
abbrev pub ResidualOne : Type 0
ResidualOne = (book : Book) (marks : Marks) (e : Event) (c r r' : Contract) →
    After book marks e c r → After book marks e c r' → r ≡ r'

-- with enough unfoldings `after_at` gives the residual by the event
abbrev pub ResidualIs : Type 0
ResidualIs = (d : ℕ) (book : Book) (marks : Marks) (e : Event) (c r : Contract) →
    AreRight book marks → UnfoldsWithin d book marks c → After book marks e c r → after_at d book marks e c ≡ r

-- with enough unfoldings what `after_at` gives is performed by what may follow the event
abbrev pub ResidualAt : Type 0
ResidualAt = (d : ℕ) (book : Book) (marks : Marks) (e : Event) (c : Contract) (s : List Event) (n : ℕ) →
    AreRight book marks → AreWellFormed book → IsDeclaredEvent book.declared e → IsWellFormed book.declared c →
    UnfoldsWithin d book marks c → May book [] (after_at d book marks e c) s n ↔ May book [] c (e ∷ s) n

-- in a guarded book an application leaves what its body leaves
abbrev pub ResidualOfApplication : Type 0
ResidualOfApplication = (book : Book) (marks : Marks) (e : Event) (f : Name) (args : List Expression) →
    IsStudied book marks → CountsFit book (App f args) →
    after book marks e (App f args) ≡ after book marks e (body_of book marks (template_in book.templates f) args)

-- the residual of a well-formed contract by a declared event is well-formed
abbrev pub ResidualWellFormed : Type 0
ResidualWellFormed = (book : Book) (marks : Marks) (e : Event) (c r : Contract) →
    AreWellFormed book → IsDeclaredEvent book.declared e → IsWellFormed book.declared c →
    After book marks e c r → IsWellFormed book.declared r

-- from a well-formed contract, by a declared event, `after_at` gives a well-formed one, with any
-- number of unfoldings
abbrev pub ResidualAtWellFormed : Type 0
ResidualAtWellFormed = (d : ℕ) (book : Book) (marks : Marks) (e : Event) (c : Contract) →
    AreWellFormed book → IsDeclaredEvent book.declared e → IsWellFormed book.declared c →
    IsWellFormed book.declared (after_at d book marks e c)

-- where the numbers of arguments fit in a contract, they fit in what `after_at` gives of it
abbrev pub ResidualAtCountsFit : Type 0
ResidualAtCountsFit = (d : ℕ) (book : Book) (marks : Marks) (e : Event) (c : Contract) →
    BodiesCountsFit book → CountsFit book c → CountsFit book (after_at d book marks e c)

-- from a normal form `after_at` gives a normal form
abbrev pub ResidualAtNormal : Type 0
ResidualAtNormal = (d : ℕ) (book : Book) (marks : Marks) (e : Event) (c : Contract) →
    normal book marks c ≡ c → normal book marks (after_at d book marks e c) ≡ after_at d book marks e c

-- from a whole contract, by a whole event, `after_at` gives a whole one
abbrev pub ResidualAtWhole : Type 0
ResidualAtWhole = (d : ℕ) (book : Book) (marks : Marks) (e : Event) (c : Contract) →
    IsWholeBook book → IsWholeEvent e → IsWholeContract c → IsWholeContract (after_at d book marks e c)

-- after a trace the residual is performed by what may follow the trace
abbrev pub TraceFollowed : Type 0
TraceFollowed = (book : Book) (marks : Marks) (o : Contract) (s s' : List Event) (n : ℕ) →
    IsStudied book marks → IsWellFormed book.declared o → CountsFit book o → All (IsDeclaredEvent book.declared) s →
    May book [] (residual_after book marks o s) s' n ↔ May book [] o (s ++ s') n

-- exactly those traces perform the residual after a trace that perform the contract after that
-- trace
abbrev pub TracePerformed : Type 0
TracePerformed = (book : Book) (marks : Marks) (o : Contract) (s s' : List Event) →
    IsStudied book marks → IsWellFormed book.declared o → CountsFit book o → All (IsDeclaredEvent book.declared) s →
    Perf book [] (residual_after book marks o s) s' ↔ Perf book [] o (s ++ s')

-- after a trace the residual is `Failure` exactly where no number of granted steps finishes
abbrev pub TraceHopeless : Type 0
TraceHopeless = (book : Book) (marks : Marks) (o : Contract) (s : List Event) →
    IsStudied book marks → IsWellFormed book.declared o → CountsFit book o → All (IsDeclaredEvent book.declared) s →
    (residual_after book marks o s ≡ Failure) ↔ ¬ ((n : ℕ) × May book [] o s n)

-- where the residual after a trace is not `Failure`, some number of granted steps finishes the
-- contract after it
abbrev pub TraceHopeful : Type 0
TraceHopeful = (book : Book) (marks : Marks) (o : Contract) (s : List Event) →
    IsStudied book marks → IsWellFormed book.declared o → CountsFit book o → All (IsDeclaredEvent book.declared) s →
    residual_after book marks o s ≢ Failure → (n : ℕ) × May book [] o s n

-- after a trace the residual is well-formed, and the numbers of arguments in it fit
abbrev pub TraceWellFormed : Type 0
TraceWellFormed = (book : Book) (marks : Marks) (o : Contract) (s : List Event) →
    IsStudied book marks → IsWellFormed book.declared o → CountsFit book o → All (IsDeclaredEvent book.declared) s →
    IsWellFormed book.declared (residual_after book marks o s) × CountsFit book (residual_after book marks o s)

-- after a trace the residual is a normal form
abbrev pub TraceNormal : Type 0
TraceNormal = (book : Book) (marks : Marks) (o : Contract) (s : List Event) →
    normal book marks (residual_after book marks o s) ≡ residual_after book marks o s

-- the residual after a trace of whole events is whole
abbrev pub TraceWhole : Type 0
TraceWhole = (book : Book) (marks : Marks) (o : Contract) (s : List Event) →
    IsWholeBook book → IsWholeContract o → IsWholeTrace s → IsWholeContract (residual_after book marks o s)

-- in a guarded book as many unfoldings in a row as there are templates find all that is ready: more
-- find the same
abbrev pub EnoughUnfoldings : Type 0
EnoughUnfoldings = (d : ℕ) (book : Book) (marks : Marks) (c : Contract) →
    AreRight book marks → IsGuarded book → BodiesCountsFit book → CountsFit book c →
    length book.templates ≤ d → ready_at d book marks c ≡ ready book marks c

-- in a guarded book the transmits and applications in the unguarded positions of a contract are
-- ready in it, and so is whatever is ready in the bodies of these applications
abbrev pub ReadyUnfolds : Type 0
ReadyUnfolds = (book : Book) (marks : Marks) (c : Contract) →
    AreRight book marks → IsGuarded book → BodiesCountsFit book → CountsFit book c →
    ready book marks c
    ≡ ready_by (λ f args. ready book marks (body_of book marks (template_in book.templates f) args)) marks c

-- in an application the application itself is ready, and whatever is ready in its body
abbrev pub ReadyOfApplication : Type 0
ReadyOfApplication = (book : Book) (marks : Marks) (f : Name) (args : List Expression) →
    AreRight book marks → IsGuarded book → BodiesCountsFit book → CountsFit book (App f args) →
    ready book marks (App f args)
    ≡ App f args ∷ ready book marks (body_of book marks (template_in book.templates f) args)
