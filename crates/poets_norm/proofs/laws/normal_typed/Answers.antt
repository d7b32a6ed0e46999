use Rattle.poets_syntax.proofs.TypedReplacing.{KeepsTypes-undeclared}
use Rattle.poets_syntax.proofs.TypingRules.{contract_typed, contract_passes}
use Rattle.poets_calculus.specs.Normal.{normal}
use Rattle.poets_norm.proofs.TypedNormals.{ContractPasses-normal}
use Rattle.poets_norm.proofs.laws.normal_typed.Goals as goal

pub returns : goal.returns
returns c = λ book reports marks scope t fresh h.
    contract_typed book reports scope (normal book marks t)
    (ContractPasses-normal book reports marks scope (KeepsTypes-undeclared book.declared scope fresh) t (contract_passes book reports scope t h))
