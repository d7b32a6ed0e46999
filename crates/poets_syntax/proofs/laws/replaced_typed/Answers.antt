use Rattle.std.proofs.Common.{◌++◌}
use Rattle.poets_expr.specs.Subst.{subst}
use Rattle.poets_syntax.specs.Replace.{replace}
use Rattle.poets_syntax.specs.OfType.{types_given}
use Rattle.poets_syntax.proofs.TypedGivens.{HasType-given, ContractPasses-given}
use Rattle.poets_syntax.proofs.TypingRules.{has_type, type_passes, contract_typed, contract_passes}
use Rattle.poets_syntax.proofs.laws.replaced_typed.Goals as goal

pub returns-clause-expression : goal.returns-clause-expression
returns-clause-expression c = λ declared given scope e t typed fresh h.
    let before = type_passes declared (types_given given ++ scope) e t h in
    has_type declared scope (subst given e) t (HasType-given declared given scope e t typed fresh before)

pub returns-clause-contract : goal.returns-clause-contract
returns-clause-contract c = λ book reports given scope t typed fresh h.
    let before = contract_passes book reports (types_given given ++ scope) t h in
    contract_typed book reports scope (replace given t) (ContractPasses-given book reports given scope t typed fresh before)
