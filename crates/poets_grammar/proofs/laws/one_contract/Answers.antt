use Rattle.poets_grammar.specs.ContractReading.{whole_contract}
use Rattle.poets_grammar.proofs.Steps.{one_answer}
use Rattle.poets_grammar.proofs.ContractComplete.{whole_contract_complete}
use Rattle.poets_grammar.proofs.laws.one_contract.Goals as goal

pub returns : goal.returns
returns c = λ ts a b r q. one_answer (whole_contract ts) a b (whole_contract_complete ts a r) (whole_contract_complete ts b q)
