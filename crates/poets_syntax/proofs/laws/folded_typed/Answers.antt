use Rattle.poets_expr.specs.Fold.{fold_closed}
use Rattle.poets_syntax.proofs.TypedReplacing.{KeepsTypes-undeclared, HasType-fold_closed}
use Rattle.poets_syntax.proofs.TypingRules.{has_type, type_passes}
use Rattle.poets_syntax.proofs.laws.folded_typed.Goals as goal

pub returns : goal.returns
returns c = λ declared scope e t fresh h.
    has_type declared scope (fold_closed declared e t) t
    (HasType-fold_closed declared scope (KeepsTypes-undeclared declared scope fresh) e t (type_passes declared scope e t h))
