use Rattle.poets_syntax.proofs.Soundness.{IsOfType-val, HasDeclaredNames-val}
use Rattle.poets_syntax.proofs.TypingRules.{type_passes}
use Rattle.poets_syntax.proofs.laws.value_of_type.Goals as goal

pub returns : goal.returns
returns c = λ declared scope env e t k h.
    let passes = type_passes declared scope e t h in
    (IsOfType-val declared scope env k e t passes, HasDeclaredNames-val declared scope env k e t passes)
