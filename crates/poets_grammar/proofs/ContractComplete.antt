-- What is a contract is read.
use Rattle.std.proofs.Common.{◌≡◌, ℕ, zero, suc, ◌<◌, ◌≤◌, List, [], ◌∷◌, length, Some, None, Ok, refl, ◌∙◌, arith}
use Rattle.poets_expr.specs.Expression.{Expression}
use Rattle.poets_syntax.specs.declared.term.Binders.{Binders}
use Rattle.poets_syntax.specs.Contract.{Contract}
use Rattle.poets_lex.specs.declared.token.Sign.{Sign}
use Rattle.poets_lex.specs.declared.token.Sign.TheVariants as S
use Rattle.poets_lex.specs.declared.token.Tok.{Tok}
use Rattle.poets_lex.specs.declared.token.Tok.TheVariants as K
use Rattle.poets_grammar.specs.Expressions.{ReadsArguments}
use Rattle.poets_grammar.specs.ContractGrammar.{ReadsBinders, ContractRule, Choice, Parallel, Sequence, Simple, ReadsContract, IsContract}
use Rattle.poets_grammar.specs.Reading.{arguments}
use Rattle.poets_grammar.specs.ContractReading.{ContractReader, sign_link, either, beside, followed, binders, transmit, application, sequence, parallel, choice, closed_contract, simple_step, simple, contract, whole_contract}
use Rattle.poets_grammar.proofs.Readers as readers
use Rattle.poets_grammar.proofs.Readers.{Fuel, no_fuel, wholes, IsReader, is_whole}
use Rattle.poets_grammar.proofs.TokenReaders.{ended}
use Rattle.poets_grammar.proofs.Joined.{Goes, begins, goes_on, ends}
use Rattle.poets_grammar.proofs.Listed.{bracketed_complete, bracketed_shorter}
use Rattle.poets_grammar.proofs.ExpressionReaders.{shorter}
use Rattle.poets_grammar.proofs.Complete.{expression_complete}
use Rattle.poets_grammar.proofs.Items.{expressions}
use Rattle.poets_grammar.proofs.ContractReaders.{contract_reader, simple_again}

-- how tightly the next token joins contracts: `+` 1, `||` 2, `;` 3, and 0 where it does not
abbrev grip : List Tok → ℕ
grip (K.Sign S.Plus ∷ ts) = 1
grip (K.Sign S.DoubleBar ∷ ts) = 2
grip (K.Sign S.Semicolon ∷ ts) = 3
grip _ = 0

-- what stands after the longest front of a rule is looser than this
abbrev grip_bound : ContractRule → ℕ
grip_bound Choice = 1
grip_bound Parallel = 2
grip_bound Sequence = 3
grip_bound Simple = 4

binders_shorter : {ts rest : List Tok} {b : Binders} → ReadsBinders ts b rest → length rest < length ts
binders_shorter ReadsBinders.Four = omega arith

pub contract_shorter : {F : ContractRule} {ts rest : List Tok} {c : Contract} → ReadsContract F ts c rest → length rest < length ts
contract_shorter (ReadsContract.OneParallel r) = contract_shorter r
contract_shorter (ReadsContract.MoreParallels r q) = omega (arith, contract_shorter r, contract_shorter q)
contract_shorter (ReadsContract.OneSequence r) = contract_shorter r
contract_shorter (ReadsContract.MoreSequences r q) = omega (arith, contract_shorter r, contract_shorter q)
contract_shorter (ReadsContract.OneSimple r) = contract_shorter r
contract_shorter (ReadsContract.MoreSimples r q) = omega (arith, contract_shorter r, contract_shorter q)
contract_shorter (ReadsContract.Transmit b r q) = omega (arith, binders_shorter b, shorter r, contract_shorter q)
contract_shorter ReadsContract.Success = omega arith
contract_shorter ReadsContract.Failure = omega arith
contract_shorter (ReadsContract.Application a) = omega (arith, bracketed_shorter expressions a)
contract_shorter (ReadsContract.Brackets r) = omega (arith, contract_shorter r)

-- ---- simple contracts, with a reader of them

-- the reader finds each simple contract of fewer tokens
abbrev FindsBelow : ContractReader → ℕ → Type 0
FindsBelow f n = (ts : List Tok) (c : Contract) (rest : List Tok) → length ts < n → ReadsContract Simple ts c rest → f ts ≡ Ok (c, rest)

plus_none : (ts : List Tok) → grip ts < 1 → sign_link S.Plus ts ≡ None
plus_none (K.Sign S.Plus ∷ ts) lt = absurd (omega arith)
plus_none _ lt = refl

bars_none : (ts : List Tok) → grip ts < 2 → sign_link S.DoubleBar ts ≡ None
bars_none (K.Sign S.DoubleBar ∷ ts) lt = absurd (omega arith)
bars_none _ lt = refl

semicolon_none : (ts : List Tok) → grip ts < 3 → sign_link S.Semicolon ts ≡ None
semicolon_none (K.Sign S.Semicolon ∷ ts) lt = absurd (omega arith)
semicolon_none _ lt = refl

-- what the rule's reader finds, with f for simple contracts: that reading is to go on after c
Claim : ContractReader → ContractRule → List Tok → Contract → List Tok → Type 0
Claim f Choice ts c rest = Goes (sign_link S.Plus) either (parallel f) (choice f) ts c rest
Claim f Parallel ts c rest = Goes (sign_link S.DoubleBar) beside (sequence f) (parallel f) ts c rest
Claim f Sequence ts c rest = Goes (sign_link S.Semicolon) followed f (sequence f) ts c rest
Claim f Simple ts c rest = f ts ≡ Ok (c, rest)

stop : (sign : Sign) {join : Unit {0} → Contract → Contract → Contract} {operand f : ContractReader} {ts rest : List Tok} {c : Contract} →
    Goes (sign_link sign) join operand f ts c rest → sign_link sign rest ≡ None → f ts ≡ Ok (c, rest)
stop sign {join} {operand} g e = ends (sign_link sign) join operand g e

step : {sign : Sign} {join : Unit {0} → Contract → Contract → Contract} {operand f : ContractReader} {ts mid rest : List Tok} {a b : Contract} →
    Goes (sign_link sign) join operand f ts a (K.Sign sign ∷ mid) → sign_link sign (K.Sign sign ∷ mid) ≡ Some (tt, mid) → operand mid ≡ Ok (b, rest) → length rest < length mid →
    Goes (sign_link sign) join operand f ts (join tt a b) rest
step {sign} {join} {operand} g e q l = goes_on (sign_link sign) join operand g e q (omega (arith, l))

full : (f : ContractReader) (n : ℕ) → FindsBelow f n → {F : ContractRule} {ts rest : List Tok} {c : Contract} → ReadsContract F ts c rest → grip rest < suc (grip_bound F) → length ts < n →
    Claim f F ts c rest
unfolding Claim choice parallel sequence
full f n h (ReadsContract.OneParallel {rest = rest} r) s l = begins (sign_link S.Plus) either (parallel f) _ _ _ (stop S.DoubleBar (full f n h r (omega arith) l) (bars_none rest s))
full f n h (ReadsContract.MoreParallels {rest = rest} r q) s l =
    step (full f n h r (omega arith) l) refl (stop S.DoubleBar (full f n h q (omega arith) (omega (arith, contract_shorter r))) (bars_none rest s)) (contract_shorter q)
full f n h (ReadsContract.OneSequence {rest = rest} r) s l = begins (sign_link S.DoubleBar) beside (sequence f) _ _ _ (stop S.Semicolon (full f n h r (omega arith) l) (semicolon_none rest s))
full f n h (ReadsContract.MoreSequences {rest = rest} r q) s l =
    step (full f n h r (omega arith) l) refl (stop S.Semicolon (full f n h q (omega arith) (omega (arith, contract_shorter r))) (semicolon_none rest s)) (contract_shorter q)
full f n h (ReadsContract.OneSimple r) s l = begins (sign_link S.Semicolon) followed f _ _ _ (h _ _ _ l r)
full f n h (ReadsContract.MoreSimples r q) s l = step (full f n h r (omega arith) l) refl (h _ _ _ (omega (arith, contract_shorter r)) q) (contract_shorter q)
full f n h (ReadsContract.Transmit b r q) s l = h _ _ _ l (ReadsContract.Transmit b r q)
full f n h ReadsContract.Success s l = h _ _ _ l ReadsContract.Success
full f n h ReadsContract.Failure s l = h _ _ _ l ReadsContract.Failure
full f n h (ReadsContract.Application a) s l = h _ _ _ l (ReadsContract.Application a)
full f n h (ReadsContract.Brackets r) s l = h _ _ _ l (ReadsContract.Brackets r)

choice_finds : (f : ContractReader) (n : ℕ) → FindsBelow f n → (ts : List Tok) (c : Contract) (rest : List Tok) → ReadsContract Choice ts c rest → grip rest < 1 → length ts < n →
    choice f ts ≡ Ok (c, rest)
unfolding Claim
choice_finds f n h ts c rest r s l = stop S.Plus (full f n h r (omega arith) l) (plus_none rest s)

pub binders_complete : {ts rest : List Tok} {b : Binders} → ReadsBinders ts b rest → binders ts ≡ Ok (b, rest)
unfolding binders
binders_complete ReadsBinders.Four = refl

pub arguments_complete : {ts rest : List Tok} {args : List Expression} → ReadsArguments ts args rest → arguments ts ≡ Ok (args, rest)
unfolding arguments
arguments_complete a = bracketed_complete expressions a

step_finds : (f : ContractReader) (n : ℕ) → FindsBelow f n → {ts rest : List Tok} {c : Contract} → ReadsContract Simple ts c rest → length ts ≤ n → simple_step f ts ≡ Ok (c, rest)
unfolding simple_step transmit application closed_contract
step_finds f n h (ReadsContract.Transmit b r q) l =
    rw (binders_complete b, expression_complete _ _ _ r (omega arith), h _ _ _ (omega (arith, binders_shorter b, shorter r)) q) refl
step_finds f n h ReadsContract.Success l = refl
step_finds f n h ReadsContract.Failure l = refl
step_finds f n h (ReadsContract.Application a) l = rw (arguments_complete a) refl
step_finds f n h (ReadsContract.Brackets r) l = rw (choice_finds f n h _ _ _ r (omega arith) (omega arith)) refl

-- ---- whole contracts

simple_finds : (n : ℕ) → FindsBelow simple n
simple_finds zero ts c rest l r = absurd (omega arith)
simple_finds (suc n) ts c rest l r = simple_again ts ∙ step_finds simple n (simple_finds n) r (omega arith)

simple_complete : (ts : List Tok) (c : Contract) (rest : List Tok) → ReadsContract Simple ts c rest → simple ts ≡ Ok (c, rest)
simple_complete ts c rest r = simple_finds (suc (length ts)) ts c rest (omega arith) r

pub contract_complete : (ts : List Tok) (c : Contract) (rest : List Tok) → ReadsContract Choice ts c rest → grip rest < 1 → contract ts ≡ Ok (c, rest)
unfolding contract
contract_complete ts c rest r s = choice_finds simple (suc (length ts)) (λ us d more l q. simple_complete us d more q) ts c rest r s (omega arith)

-- ---- the law

pub whole_contract_complete : (ts : List Tok) (c : Contract) → IsContract ts c → whole_contract ts ≡ Ok c
unfolding whole_contract
whole_contract_complete ts c r = rw (contract_complete ts c [] r (omega arith)) refl

pub whole_contract_reader : {I : Type 0} {fuel : Fuel I} (n : ℕ) → IsReader n fuel wholes (λ us c rest. IsContract us c) (λ i us. whole_contract us)
unfolding whole_contract
whole_contract_reader n = readers.followed _ (contract_reader n) (λ c. ended c (λ us r. r))

pub contract_found : (ts : List Tok) (c : Contract) → whole_contract ts ≡ Ok c → IsContract ts c
contract_found ts c q =
    let reader : IsReader (suc (length ts)) no_fuel wholes (λ us c rest. IsContract us c) (λ i us. whole_contract us) = whole_contract_reader (suc (length ts)) in
    is_whole (reader.reads ts (omega arith)) q
