use Rattle.poets_syntax.proofs.Demanded.{types_by_demands, type_faults_by_demands, contracts_by_demands, contract_faults_by_demands, one_cause}
use Rattle.poets_syntax.proofs.laws.faults_by_demands.Goals as goal

pub returns-clause-types : goal.returns-clause-types
returns-clause-types c = types_by_demands

pub returns-clause-type_faults : goal.returns-clause-type_faults
returns-clause-type_faults c = type_faults_by_demands

pub returns-clause-contracts : goal.returns-clause-contracts
returns-clause-contracts c = contracts_by_demands

pub returns-clause-contract_faults : goal.returns-clause-contract_faults
returns-clause-contract_faults c = contract_faults_by_demands

pub returns-clause-one_cause : goal.returns-clause-one_cause
returns-clause-one_cause c = one_cause
