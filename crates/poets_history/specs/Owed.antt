-- What is owed on a contract after a trace, and what is past the limit. Both need the marks of the
-- templates, and the book determines which marks are right.
use Rattle.std.specs.Prelude.{◌≡◌, List, IsTrue}
use Rattle.poets_value.specs.declared.event.Event.{Event}
use Rattle.poets_syntax.specs.Contract.{Contract}
use Rattle.poets_syntax.specs.Plain.{Book}
use Rattle.poets_meaning.specs.Marks.{Marks, AreRight}
use Rattle.poets_meaning.specs.Spread.{is_past_limit}
use Rattle.poets_calculus.specs.Residual.{residual_after}

-- the property holds for the marks that are right for the book
pub record WithRightMarks (book : Book) (Property : Marks → Type 0) : Type 0 where
  pub marks : Marks
  pub right : AreRight book marks
  pub holds : Property marks

-- the residual of the contract by the trace is what is owed on it
abbrev pub Owed : Book → Contract → List Event → (residual : Contract) → Type 0
Owed book o s residual = WithRightMarks book (λ marks. residual_after book marks o s ≡ residual)

-- the contract is past the limit
abbrev pub IsPastLimit : Book → Contract → Type 0
IsPastLimit book c = WithRightMarks book (λ marks. IsTrue (is_past_limit book marks c))
