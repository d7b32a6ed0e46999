use Rattle.poets_syntax.proofs.Typedness.{ApplicationsFit-typed}
use Rattle.poets_syntax.proofs.TypingRules.{contract_passes, BodiesFit-typed}
use Rattle.poets_syntax.proofs.Counts.{CountsFit-fit}
use Rattle.poets_syntax.proofs.laws.typed_applications_fit.Goals as goal

pub returns : goal.returns
returns c = record {
  contract = λ book reports scope t h. ApplicationsFit-typed book reports scope t (contract_passes book reports scope t h);
  bodies = BodiesFit-typed;
  counts = CountsFit-fit;
}
