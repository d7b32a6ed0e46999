-- The operators of a printed contract against those of the tokens that were read.
use Rattle.std.proofs.Common.{◌≡◌, ℕ, zero, suc, ◌+◌, ◌≤◌, List, ◌∷◌, Some, refl, arith, pos, neg_ℤ}
use Rattle.std.specs.Prelude.{Bool, true, false, cond}
use Rattle.std.proofs.lemmas.List.Recursion.{is_count_by}
use Rattle.poets_expr.specs.declared.expr.Op.{Op}
use Rattle.poets_expr.specs.Expression.{Expression}
use Rattle.poets_syntax.specs.declared.term.Binders.{Binders}
use Rattle.poets_syntax.specs.Contract.{Contract}
use Rattle.poets_lex.specs.declared.token.Word.{Word}
use Rattle.poets_lex.specs.declared.token.Word.TheVariants as W
use Rattle.poets_lex.specs.declared.token.Sign.TheVariants as S
use Rattle.poets_lex.specs.declared.token.Tok.{Tok}
use Rattle.poets_lex.specs.declared.token.Tok.TheVariants as K
use Rattle.poets_grammar.specs.Tokens.{infix_operator}
use Rattle.poets_grammar.specs.TooDeep.{is_operator, operators}
use Rattle.poets_grammar.specs.Lists.{ReadsList, ReadsBracketed}
use Rattle.poets_grammar.specs.Expressions.{Rule, Disjunction, ReadsExpression, ReadsArguments}
use Rattle.poets_grammar.specs.ContractGrammar.{ContractRule, ReadsBinders, ReadsContract, IsContract}
use Rattle.poets_printed.proofs.Measures.{one_more, marked, sign_count, written_operators, operators_of_all}
use Rattle.poets_printed.proofs.Measures.{contract_operators}

one_more_is : (b : Bool) (n : ℕ) → one_more b n ≡ cond b (1 + n) n
one_more_is true n = omega arith
one_more_is false n = refl

-- counted one by one, they are as many
pub marked_is : (ts : List Tok) → marked ts ≡ operators ts
marked_is = is_count_by marked is_operator refl (λ t ts. one_more_is (is_operator t) (marked ts))

counted :
    (t : Tok) (l : ℕ) (o : Op) (ts : List Tok) → infix_operator t ≡ Some (l, o) → marked (t ∷ ts) ≡ suc (marked ts)
counted (K.Word W.Or) l o ts h = refl
counted (K.Word W.And) l o ts h = refl
counted (K.Word w) l o ts h = absurd (cc)
counted (K.Sign S.Equal) l o ts h = refl
counted (K.Sign S.NotEqual) l o ts h = refl
counted (K.Sign S.Less) l o ts h = refl
counted (K.Sign S.LessEqual) l o ts h = refl
counted (K.Sign S.Greater) l o ts h = refl
counted (K.Sign S.GreaterEqual) l o ts h = refl
counted (K.Sign S.Plus) l o ts h = refl
counted (K.Sign S.Minus) l o ts h = refl
counted (K.Sign S.Star) l o ts h = refl
counted (K.Sign S.Slash) l o ts h = refl
counted (K.Sign S.Percent) l o ts h = refl
counted (K.Sign s) l o ts h = absurd (cc)
counted t l o ts h = absurd (cc)

negative : (n : ℕ) → sign_count (neg_ℤ (pos n)) ≤ 1
negative zero = omega arith
negative (suc n) = omega arith

one_more_least : (b : Bool) (n : ℕ) → n ≤ one_more b n
one_more_least true n = omega arith
one_more_least false n = omega arith

undefined_few :
    (w : Word) (rest : List Tok) → 0 + marked rest ≤ marked (K.Word W.Undefined ∷ K.Word w ∷ rest)
undefined_few w rest =
    let h : marked rest ≤ marked (K.Word W.Undefined ∷ K.Word w ∷ rest) =
    one_more_least (is_operator (K.Word w)) (marked rest) in
    omega (arith, h)

-- the tokens ahead of the rest have this many operators or more
pub record Counts (k : ℕ) (ts rest : List Tok) : Type 0 where
  pub few : k + marked rest ≤ marked ts

joined :
    {j k : ℕ} {ts mid rest : List Tok} {t : Tok} {l : ℕ} {o : Op} → infix_operator t ≡ Some (l, o) →
    Counts j ts (t ∷ mid) → Counts k mid rest → Counts (suc (j + k)) ts rest
joined {mid = mid} {t = t} {l = l} {o = o} is a b =
    record { few = omega (arith, a.few, b.few, counted t l o mid is) }

counts :
    {r : Rule} {ts rest : List Tok} {e : Expression} →
    ReadsExpression r ts e rest → Counts (written_operators e) ts rest
counts (ReadsExpression.OneConjunction r) = counts r
counts (ReadsExpression.MoreConjunctions j r q) = joined j (counts r) (counts q)
counts (ReadsExpression.OneNegation r) = counts r
counts (ReadsExpression.MoreNegations j r q) = joined j (counts r) (counts q)
counts (ReadsExpression.Not r) = record { few = omega (arith, (counts r).few) }
counts (ReadsExpression.OneComparison r) = counts r
counts (ReadsExpression.OneSum r) = counts r
counts (ReadsExpression.TwoSums j r q) = joined j (counts r) (counts q)
counts (ReadsExpression.OneProduct r) = counts r
counts (ReadsExpression.MoreProducts j r q) = joined j (counts r) (counts q)
counts (ReadsExpression.OnePrefixed r) = counts r
counts (ReadsExpression.MorePrefixed j r q) = joined j (counts r) (counts q)
counts (ReadsExpression.NegativeNumber {n = n}) = record { few = omega (arith, negative n) }
counts (ReadsExpression.Minus _ r) = record { few = omega (arith, (counts r).few) }
counts (ReadsExpression.OnePrimary r) = counts r
counts ReadsExpression.Number = record { few = omega arith }
counts ReadsExpression.ADay = record { few = omega arith }
counts ReadsExpression.True = record { few = omega arith }
counts ReadsExpression.False = record { few = omega arith }
counts ReadsExpression.AName = record { few = omega arith }
counts (ReadsExpression.Undefined {w = w} {rest = rest} is) = record { few = undefined_few w rest }
counts ReadsExpression.Resource = record { few = omega arith }
counts (ReadsExpression.NegativeResource {n = n}) = record { few = omega (arith, negative n) }
counts (ReadsExpression.AmountOf r) = record { few = omega (arith, (counts r).few) }
counts (ReadsExpression.KindOf r) = record { few = omega (arith, (counts r).few) }
counts (ReadsExpression.Make r q) = record { few = omega (arith, (counts r).few, (counts q).few) }
counts (ReadsExpression.If r q w) = record { few = omega (arith, (counts r).few, (counts q).few, (counts w).few) }
counts (ReadsExpression.Brackets r) = record { few = omega (arith, (counts r).few) }

binders_count : {ts rest : List Tok} {b : Binders} → ReadsBinders ts b rest → marked ts ≡ marked rest
binders_count ReadsBinders.Four = omega arith

list_counts :
    {ts rest : List Tok} {es : List Expression} →
    ReadsList (ReadsExpression Disjunction) ts es rest → Counts (operators_of_all es) ts rest
list_counts (ReadsList.One r) = record { few = omega (arith, (counts r).few) }
list_counts (ReadsList.More r q) = record { few = omega (arith, (counts r).few, (list_counts q).few) }

arguments_count :
    {ts rest : List Tok} {es : List Expression} → ReadsArguments ts es rest → Counts (operators_of_all es) ts rest
arguments_count ReadsBracketed.Empty = record { few = omega arith }
arguments_count (ReadsBracketed.Full q) = record { few = omega (arith, (list_counts q).few) }

pub arguments_few :
    {ts rest : List Tok} {es : List Expression} →
    ReadsArguments ts es rest → operators_of_all es + marked rest ≤ marked ts
arguments_few q = (arguments_count q).few

contract_counts :
    {r : ContractRule} {ts rest : List Tok} {c : Contract} →
    ReadsContract r ts c rest → Counts (contract_operators c) ts rest
contract_counts (ReadsContract.OneParallel r) = contract_counts r
contract_counts (ReadsContract.MoreParallels r q) =
    record { few = omega (arith, (contract_counts r).few, (contract_counts q).few) }
contract_counts (ReadsContract.OneSequence r) = contract_counts r
contract_counts (ReadsContract.MoreSequences r q) =
    record { few = omega (arith, (contract_counts r).few, (contract_counts q).few) }
contract_counts (ReadsContract.OneSimple r) = contract_counts r
contract_counts (ReadsContract.MoreSimples r q) =
    record { few = omega (arith, (contract_counts r).few, (contract_counts q).few) }
contract_counts (ReadsContract.Transmit names p c) =
    record { few = omega (arith, binders_count names, (counts p).few, (contract_counts c).few) }
contract_counts ReadsContract.Success = record { few = omega arith }
contract_counts ReadsContract.Failure = record { few = omega arith }
contract_counts (ReadsContract.Application q) = record { few = omega (arith, (arguments_count q).few) }
contract_counts (ReadsContract.Brackets r) = record { few = omega (arith, (contract_counts r).few) }

-- printing a contract that was read has no operator more
pub no_more_operators : (ts : List Tok) (c : Contract) → IsContract ts c → contract_operators c ≤ marked ts
no_more_operators ts c r = omega (arith, (contract_counts r).few)
