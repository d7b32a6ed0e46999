use Rattle.std.proofs.Common.{[], refl}
use Rattle.poets_syntax.proofs.Counts.{CountsFit-fit}
use Rattle.poets_meaning.proofs.Nullability.{nullable_in, nullable_performed, EachExposed-fits}
use Rattle.poets_meaning.proofs.laws.nullable_by_marks.Goals as goal

pub returns : goal.returns
returns c = λ book marks t right fit.
    ((λ e. nullable_performed book marks right [] t (EachExposed-fits book marks t (CountsFit-fit book t fit)) e), (λ p. nullable_in book marks right p refl))
