-- Typed residuals.
use Rattle.std.specs.Prelude.{◌≡◌, ℕ, true, List, [], All, sum_by}
use Rattle.poets_value.specs.declared.value.Name.{Name}
use Rattle.poets_value.specs.declared.event.Event.{Event}
use Rattle.poets_expr.specs.Expression.{Expression}
use Rattle.poets_expr.specs.Fold.{is_literal}
use Rattle.poets_syntax.specs.Contract.{Contract, App}
use Rattle.poets_syntax.specs.Plain.{Book}
use Rattle.poets_syntax.specs.Book.{template_in}
use Rattle.poets_syntax.specs.WellFormed.{IsDeclaredEvent}
use Rattle.poets_syntax.specs.Typing.{IsTyped, IsTypedBook}
use Rattle.poets_meaning.specs.Arguments.{arguments}
use Rattle.poets_meaning.specs.Marks.{Marks}
use Rattle.poets_meaning.specs.Width.{body_in}
use Rattle.poets_calculus.specs.Normal.{normal}
use Rattle.poets_calculus.specs.Residual.{after_at, after, residual_after}
use Rattle.poets_norm.specs.Questions.{operated}
use Rattle.poets_residue.specs.Once.{ready, asked_of, IsAmong}

-- in a typed book the residual of a closed typed contract by a declared event is closed and typed
abbrev pub ResidualTyped : Type 0
ResidualTyped = (book : Book) (reports : List Name) (marks : Marks) (e : Event) (c : Contract) →
    IsTypedBook book reports → IsDeclaredEvent book.declared e → IsTyped book reports [] c →
    IsTyped book reports [] (after book marks e c)

-- in a typed book `after_at` gives of a closed typed contract, by a declared event, a closed typed
-- one, with any number of unfoldings
abbrev pub ResidualAtTyped : Type 0
ResidualAtTyped = (d : ℕ) (book : Book) (reports : List Name) (marks : Marks) (e : Event) (c : Contract) →
    IsTypedBook book reports → IsDeclaredEvent book.declared e → IsTyped book reports [] c →
    IsTyped book reports [] (after_at d book marks e c)

-- in a typed book the residual of a closed typed contract after a trace of declared events is
-- closed and typed
abbrev pub TraceTyped : Type 0
TraceTyped = (book : Book) (reports : List Name) (marks : Marks) (o : Contract) (s : List Event) →
    IsTypedBook book reports → All (IsDeclaredEvent book.declared) s → IsTyped book reports [] o →
    IsTyped book reports [] (residual_after book marks o s)

-- in a typed book the arguments of each application that is ready in a closed typed contract in
-- normal form are literals or declared names
abbrev pub ReadyLiterals : Type 0
ReadyLiterals = (book : Book) (reports : List Name) (marks : Marks) (c : Contract) (f : Name) (args : List Expression) →
    IsTypedBook book reports → IsTyped book reports [] c → normal book marks c ≡ c →
    IsAmong (App f args) (ready book marks c) →
    All (λ a. is_literal book.declared a ≡ true) args

-- in a typed book no argument of an application that is ready in a closed typed contract in normal
-- form has an operator
abbrev pub NoneOperated : Type 0
NoneOperated = (book : Book) (reports : List Name) (marks : Marks) (c : Contract) (f : Name) (args : List Expression) →
    IsTypedBook book reports → IsTyped book reports [] c → normal book marks c ≡ c →
    IsAmong (App f args) (ready book marks c) →
    sum_by operated args ≡ 0

-- in a typed book an application that is ready in a closed typed contract in normal form takes at
-- most one evaluation for each argument in its template's body
abbrev pub AskedOfBody : Type 0
AskedOfBody = (book : Book) (reports : List Name) (marks : Marks) (c : Contract) (f : Name) (args : List Expression) →
    IsTypedBook book reports → IsTyped book reports [] c → normal book marks c ≡ c →
    IsAmong (App f args) (ready book marks c) →
    asked_of book (App f args) ≡ body_in (template_in book.templates f) arguments

-- in a typed book an application that is ready in the residual after a trace takes at most one
-- evaluation for each argument in its template's body
abbrev pub TraceAskedOfBody : Type 0
TraceAskedOfBody = (book : Book) (reports : List Name) (marks : Marks) (o : Contract) (s : List Event) (f : Name)
    (args : List Expression) →
    IsTypedBook book reports → All (IsDeclaredEvent book.declared) s → IsTyped book reports [] o →
    IsAmong (App f args) (ready book marks (residual_after book marks o s)) →
    asked_of book (App f args) ≡ body_in (template_in book.templates f) arguments
