use Rattle.poets_syntax.proofs.Typedness.{ApplicationsFit-typed, IsWellFormed-typed}
use Rattle.poets_syntax.proofs.TypingRules.{contract_passes}
use Rattle.poets_syntax.proofs.Counts.{CountsFit-fit}
use Rattle.poets_syntax.proofs.laws.typed_well_formed.Goals as goal

pub returns : goal.returns
returns c = record {
  well_formed = λ book reports scope t h. IsWellFormed-typed book reports scope t (contract_passes book reports scope t h);
  counts = λ book reports scope t h. CountsFit-fit book t (ApplicationsFit-typed book reports scope t (contract_passes book reports scope t h));
}
