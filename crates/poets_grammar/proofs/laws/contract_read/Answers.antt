use Rattle.poets_grammar.proofs.ContractComplete.{whole_contract_complete, contract_found}
use Rattle.poets_grammar.proofs.laws.contract_read.Goals as goal

pub returns : goal.returns
returns c = λ ts d. (whole_contract_complete ts d, contract_found ts d)
