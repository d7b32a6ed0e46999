use Rattle.std.proofs.Common.{[], length}
use Rattle.poets_syntax.proofs.TypingRules.{contract_typed, contract_passes, book_passes}
use Rattle.poets_calculus.specs.Residual.{after_at, after, residual_after}
use Rattle.poets_residue.proofs.TypedResiduals.{ContractPasses-after_at, ContractPasses-residual_after}
use Rattle.poets_residue.proofs.laws.residual_typed.Goals as goal

pub returns-clause-by_event : goal.returns-clause-by_event
returns-clause-by_event c = λ book reports marks e t typed declared h.
    let bodies = book_passes book reports typed in
    let before = contract_passes book reports [] t h in
    contract_typed book reports [] (after book marks e t)
    (ContractPasses-after_at book reports marks bodies e declared (length book.templates) t before)

pub returns-clause-at : goal.returns-clause-at
returns-clause-at c = λ d book reports marks e t typed declared h.
    let bodies = book_passes book reports typed in
    let before = contract_passes book reports [] t h in
    contract_typed book reports [] (after_at d book marks e t) (ContractPasses-after_at book reports marks bodies e declared d t before)

pub returns-clause-after_trace : goal.returns-clause-after_trace
returns-clause-after_trace c = λ book reports marks o s typed events h.
    let bodies = book_passes book reports typed in
    let before = contract_passes book reports [] o h in
    contract_typed book reports [] (residual_after book marks o s) (ContractPasses-residual_after book reports marks bodies o s events before)
