-- The brackets of a printed contract against those of the tokens that were read.
use Rattle.std.proofs.Common.{◌≡◌, ℕ, suc, ◌+◌, ◌≤◌, List, ◌∷◌, arith}
use Rattle.std.specs.Prelude.{nat_lt, nat_le}
use Rattle.std.proofs.lemmas.Bool.Decides.{nat_tests}
use Rattle.poets_expr.specs.Expression.{Expression}
use Rattle.poets_syntax.specs.declared.term.Binders.{Binders}
use Rattle.poets_syntax.specs.Contract as C
use Rattle.poets_syntax.specs.Contract.{Contract}
use Rattle.poets_lex.specs.declared.token.Sign.TheVariants as S
use Rattle.poets_lex.specs.declared.token.Tok.{Tok}
use Rattle.poets_lex.specs.declared.token.Tok.TheVariants as K
use Rattle.poets_grammar.specs.Lists.{ReadsList, ReadsBracketed}
use Rattle.poets_grammar.specs.Expressions.{ReadsExpression, Disjunction, ReadsArguments}
use Rattle.poets_grammar.specs.ContractGrammar.{ContractRule, Choice, Parallel, Sequence, Simple, ReadsBinders}
use Rattle.poets_grammar.specs.ContractGrammar.{ReadsContract, IsContract}
use Rattle.poets_print.specs.Levels.{contract_level}
use Rattle.poets_printed.proofs.Measures.{Fits, deeper, depth_of_all, contract_depth}
use Rattle.poets_printed.proofs.Depths.{deeper_less, deeper_most, deeper_not, keeps_first}

-- the depth of the contract where a level is wanted
contract_at : ℕ → Contract → ℕ
contract_at l c = deeper (nat_lt (contract_level c) l) (contract_depth c)

-- the level of a rule
tightness : ContractRule → ℕ
tightness Choice = 1
tightness Parallel = 2
tightness Sequence = 3
tightness Simple = 4

at_looser : (l : ℕ) (c : Contract) → contract_at l c ≤ contract_at (suc l) c
unfolding contract_at
at_looser l c =
    deeper_less (nat_lt (contract_level c) l) (nat_lt (contract_level c) (suc l)) (contract_depth c)
    (λ h. grind (arith, nat_tests))

at_most : (l : ℕ) (c : Contract) → contract_at l c ≤ suc (contract_depth c)
unfolding contract_at
at_most l c = deeper_most (nat_lt (contract_level c) l) (contract_depth c)

level_least : (c : Contract) → 1 ≤ contract_level c
level_least (C.Plus a b) = omega arith
level_least (C.Par a b) = omega arith
level_least (C.Seq a b) = omega arith
level_least c = omega arith

at_first : (c : Contract) → contract_at 1 c ≡ contract_depth c
unfolding contract_at
at_first c =
    deeper_not (nat_lt (contract_level c) 1) (contract_depth c) (grind (arith, nat_tests, level_least c))

right_less :
    (l : ℕ) (b : Contract) → deeper (nat_le (contract_level b) l) (contract_depth b) ≤ contract_at (suc l) b
unfolding contract_at
right_less l b =
    deeper_less (nat_le (contract_level b) l) (nat_lt (contract_level b) (suc l)) (contract_depth b)
    (λ h. grind (arith, nat_tests))

-- the printed contract fits with one bracket more, and what is behind it fits as it is
record Keeps (l : ℕ) (c : Contract) (ts rest : List Tok) : Type 0 where
  within : (most n : ℕ) → Fits most n ts → (n + contract_at l c ≤ suc most) × Fits most n rest

looser : {l : ℕ} {c : Contract} {ts rest : List Tok} → Keeps (suc l) c ts rest → Keeps l c ts rest
looser {l = l} {c = c} k = record {
  within = λ most n h. let p = k.within most n h in (omega (arith, p.0, at_looser l c), p.1);
}

plus :
    {a b : Contract} {ts mid rest : List Tok} →
    Keeps 1 a ts (K.Sign S.Plus ∷ mid) → Keeps 2 b mid rest → Keeps 1 (C.Plus a b) ts rest
unfolding contract_at
plus {a = a} {b = b} k q = record {
  within = λ most n h.
      let p = k.within most n h in
      let r = q.within most n p.1.1 in
      (omega (arith, p.0, r.0, right_less 1 b), r.1);
}

par :
    {a b : Contract} {ts mid rest : List Tok} →
    Keeps 2 a ts (K.Sign S.DoubleBar ∷ mid) → Keeps 3 b mid rest → Keeps 2 (C.Par a b) ts rest
unfolding contract_at
par {a = a} {b = b} k q = record {
  within = λ most n h.
      let p = k.within most n h in
      let r = q.within most n p.1.1 in
      (omega (arith, p.0, r.0, right_less 2 b), r.1);
}

seq :
    {a b : Contract} {ts mid rest : List Tok} →
    Keeps 3 a ts (K.Sign S.Semicolon ∷ mid) → Keeps 4 b mid rest → Keeps 3 (C.Seq a b) ts rest
unfolding contract_at
seq {a = a} {b = b} k q = record {
  within = λ most n h.
      let p = k.within most n h in
      let r = q.within most n p.1.1 in
      (omega (arith, p.0, r.0, right_less 3 b), r.1);
}

binders_keep :
    (most n : ℕ) {ts rest : List Tok} {b : Binders} → ReadsBinders ts b rest → Fits most n ts → Fits most n rest
binders_keep most n ReadsBinders.Four h = h.1.1.1.1.1.1.1

list_keeps :
    {ts rest : List Tok} {es : List Expression} → ReadsList (ReadsExpression Disjunction) ts es rest →
    (most n : ℕ) → Fits most n ts → (n + depth_of_all es ≤ suc most) × Fits most n rest
list_keeps (ReadsList.One r) most n h = let p = keeps_first r most n h in (omega (arith, p.0), p.1)
list_keeps (ReadsList.More r q) most n h =
    let p = keeps_first r most n h in
    let s = list_keeps q most n p.1.1 in
    (omega (arith, p.0, s.0), s.1)

-- arguments with their brackets
pub arguments_keep :
    {ts rest : List Tok} {es : List Expression} → ReadsArguments ts es rest →
    (most n : ℕ) → Fits most n ts → (n + suc (depth_of_all es) ≤ suc most) × Fits most n rest
arguments_keep ReadsBracketed.Empty most n h = (omega (arith, h.0), h.1.1)
arguments_keep (ReadsBracketed.Full q) most n h =
    let s = list_keeps q most (suc n) h.1 in
    (omega (arith, s.0), s.1.1)

keeps :
    {r : ContractRule} {ts rest : List Tok} {c : Contract} → ReadsContract r ts c rest → Keeps (tightness r) c ts rest
unfolding tightness contract_at
keeps (ReadsContract.OneParallel r) = looser (keeps r)
keeps (ReadsContract.MoreParallels r q) = plus (keeps r) (keeps q)
keeps (ReadsContract.OneSequence r) = looser (keeps r)
keeps (ReadsContract.MoreSequences r q) = par (keeps r) (keeps q)
keeps (ReadsContract.OneSimple r) = looser (keeps r)
keeps (ReadsContract.MoreSimples r q) = seq (keeps r) (keeps q)
keeps (ReadsContract.Transmit names p c) = record {
  within = λ most n h.
      let s = keeps_first p most (suc n) (binders_keep most (suc n) names h.1.1).1 in
      let u = (keeps c).within most n s.1.1.1 in
      (omega (arith, s.0, u.0), u.1);
}
keeps ReadsContract.Success = record { within = λ most n h. (omega (arith, h.0), h.1) }
keeps ReadsContract.Failure = record { within = λ most n h. (omega (arith, h.0), h.1) }
keeps (ReadsContract.Application q) = record { within = λ most n h. arguments_keep q most n h.1 }
keeps (ReadsContract.Brackets {c = c} r) = record {
  within = λ most n h.
      let p = (keeps r).within most (suc n) h.1 in
      (omega (arith, p.0, at_first c, at_most 4 c), p.1.1);
}

-- printing a contract that was read opens at most one bracket more
pub one_more_open :
    (ts : List Tok) (c : Contract) (most : ℕ) → IsContract ts c → Fits most 0 ts → contract_depth c ≤ suc most
unfolding tightness
one_more_open ts c most r h = let p = (keeps r).within most 0 h in omega (arith, p.0, at_first c)
