use Rattle.poets_syntax.proofs.TypingRules.{types_by_rules, contracts_by_rules}
use Rattle.poets_syntax.proofs.laws.typed_by_rules.Goals as goal

pub returns-clause-expressions : goal.returns-clause-expressions
returns-clause-expressions c = types_by_rules

pub returns-clause-contracts : goal.returns-clause-contracts
returns-clause-contracts c = contracts_by_rules
