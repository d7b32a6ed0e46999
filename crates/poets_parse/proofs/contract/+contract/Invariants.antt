use Rattle.std.proofs.Common.{◌+◌, ◌*◌, length}
use Rattle.poets_syntax.specs.Contract.{contract_of}
use Rattle.poets_lex.specs.declared.token.Sign.TheVariants as S
use Rattle.poets_grammar.specs.ContractReading.{sign_link, either, beside, followed, simple, sequence, parallel}
use Rattle.poets_parse.proofs.Loops.{Joining}
use Rattle.poets_parse.proofs.contract.+contract.Given as goal

-- the rules in their order, and less of the tokens

abbrev pub decreases-simple : goal.decreases-simple
decreases-simple l = 8 * length l.tokens.now + 1

abbrev pub decreases-sequence : goal.decreases-sequence
decreases-sequence l = 8 * length l.tokens.now + 2

abbrev pub decreases-parallel : goal.decreases-parallel
decreases-parallel l = 8 * length l.tokens.now + 3

abbrev pub decreases-contract : goal.decreases-contract
decreases-contract l = 8 * length l.tokens.now + 4

abbrev pub decreases-closed : goal.decreases-closed
decreases-closed l = 8 * length l.tokens.now + 5

abbrev pub decreases-transmit : goal.decreases-transmit
decreases-transmit l = 8 * length l.tokens.now + 5

abbrev pub invariant-contract-loop-behind : goal.invariant-contract-loop-behind
invariant-contract-loop-behind l = Joining (sign_link S.Plus) either (parallel simple) l.tokens (contract_of l.left) l.rest

abbrev pub decreases-contract-loop-behind : goal.decreases-contract-loop-behind
decreases-contract-loop-behind l = length l.rest

abbrev pub invariant-parallel-loop-behind : goal.invariant-parallel-loop-behind
invariant-parallel-loop-behind l = Joining (sign_link S.DoubleBar) beside (sequence simple) l.tokens (contract_of l.left) l.rest

abbrev pub decreases-parallel-loop-behind : goal.decreases-parallel-loop-behind
decreases-parallel-loop-behind l = length l.rest

abbrev pub invariant-sequence-loop-behind : goal.invariant-sequence-loop-behind
invariant-sequence-loop-behind l = Joining (sign_link S.Semicolon) followed simple l.tokens (contract_of l.left) l.rest

abbrev pub decreases-sequence-loop-behind : goal.decreases-sequence-loop-behind
decreases-sequence-loop-behind l = length l.rest
