use Rattle.std.proofs.Common.{refl}
use Rattle.poets_grammar.specs.Examples.{joint, joint_tree}
use Rattle.poets_grammar.specs.Reading.{arguments, bracketed, joined, more}
use Rattle.poets_grammar.specs.ContractReading.{whole_contract, contract, choice, parallel, sequence, simple, simple_at, simple_step, application}
use Rattle.poets_grammar.proofs.ContractComplete.{contract_found}
use Rattle.poets_grammar.proofs.examples.contracts.Goals as goal

pub returns : goal.returns
unfolding arguments bracketed joined more whole_contract contract choice parallel sequence simple simple_at simple_step application
returns c = contract_found joint joint_tree refl
