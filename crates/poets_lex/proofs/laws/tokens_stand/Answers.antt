use Rattle.std.proofs.Common.{[], refl}
use Rattle.poets_lex.proofs.Standing.{standing}
use Rattle.poets_lex.proofs.laws.tokens_stand.Goals as goal

pub returns : goal.returns
returns c = λ before text tokens after h. standing h text [] refl refl
