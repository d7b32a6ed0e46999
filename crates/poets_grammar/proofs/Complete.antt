-- What is an expression is read.
use Rattle.std.proofs.Common.{◌≡◌, ℕ, zero, suc, ◌<◌, ◌≤◌, false, List, [], ◌∷◌, length, Some, Ok, Err, refl, sym, ap, ◌∙◌, arith}
use Rattle.poets_expr.specs.declared.expr.Op.{Op}
use Rattle.poets_expr.specs.Expression.{Minus, Expression, Binary}
use Rattle.poets_lex.specs.declared.token.Word.TheVariants as W
use Rattle.poets_lex.specs.declared.token.Sign.TheVariants as S
use Rattle.poets_lex.specs.declared.token.Tok.{Tok}
use Rattle.poets_lex.specs.declared.token.Tok.TheVariants as K
use Rattle.poets_grammar.specs.Tokens.{infix_operator}
use Rattle.poets_grammar.specs.Expressions.{Rule, Disjunction, Conjunction, Negation, Comparison, Sum, Product, Prefixed, Primary, begins_number, ReadsExpression, IsExpression}
use Rattle.poets_grammar.specs.Reading.{Reader, operator, joined, closed, applied, made, conditional, amount, credit, debt, resource, undefined_of, literal, primary, under, negative, prefixed, product, sum, comparison, negation, conjunction, disjunction, expression, whole_expression}
use Rattle.poets_grammar.proofs.Levels.{tight, tight_is, an_operator, no_operator}
use Rattle.poets_grammar.proofs.Joined.{Goes, begins, goes_on, ends}
use Rattle.poets_grammar.proofs.Readers.{Fuel, no_fuel, wholes, IsReader, followed, is_whole}
use Rattle.poets_grammar.proofs.TokenReaders.{ended}
use Rattle.poets_grammar.proofs.ExpressionReaders.{shorter, expression_reader, expression_again}

-- ---- the first token

-- what begins with `not` is no comparison
negation_else : (f : Reader) (ts : List Tok) (p : Expression × List Tok) → comparison f ts ≡ Ok p → negation f ts ≡ Ok p
unfolding negation comparison sum product prefixed joined primary
negation_else f (K.Word W.Not ∷ ts) p e =
    let none : comparison f (K.Word W.Not ∷ ts) ≡ Err (suc (length ts)) = refl in
    absurd cc
negation_else f ts p e = e

-- what begins with `-` is no primary
prefixed_else : (f : Reader) (ts : List Tok) (p : Expression × List Tok) → primary f ts ≡ Ok p → prefixed f ts ≡ Ok p
unfolding prefixed primary
prefixed_else f (K.Sign S.Minus ∷ ts) p e = absurd cc
prefixed_else f ts p e = e

minus_else : (f : Reader) (ts : List Tok) → begins_number ts ≡ false → prefixed f (K.Sign S.Minus ∷ ts) ≡ under Minus (prefixed f ts)
unfolding prefixed
minus_else f [] e = refl
minus_else f (K.Number n ∷ ts) e = absurd cc
minus_else f (K.Word w ∷ ts) e = refl
minus_else f (K.Name x ∷ ts) e = refl
minus_else f (K.Day d ∷ ts) e = refl
minus_else f (K.Sign s ∷ ts) e = refl

-- ---- all rules

-- the tokens that may stand after a part, which more operands may follow, are looser than this
need : Rule → ℕ
need Disjunction = 2
need Conjunction = 4
need Negation = 4
need Comparison = 4
need Sum = 6
need Product = 7
need Prefixed = 7
need Primary = 7

-- what the rule's reader finds, with f for whole expressions: for operands of one level, that reading is to go on after e
Claim : Reader → Rule → List Tok → Expression → List Tok → Type 0
Claim f Disjunction ts e rest = Goes (operator 1) Binary (conjunction f) (disjunction f) ts e rest
Claim f Conjunction ts e rest = Goes (operator 2) Binary (negation f) (conjunction f) ts e rest
Claim f Negation ts e rest = negation f ts ≡ Ok (e, rest)
Claim f Comparison ts e rest = comparison f ts ≡ Ok (e, rest)
Claim f Sum ts e rest = Goes (operator 5) Binary (product f) (sum f) ts e rest
Claim f Product ts e rest = Goes (operator 6) Binary (prefixed f) (product f) ts e rest
Claim f Prefixed ts e rest = prefixed f ts ≡ Ok (e, rest)
Claim f Primary ts e rest = primary f ts ≡ Ok (e, rest)

-- the reader finds each whole expression of fewer tokens
abbrev FindsBelow : Reader → ℕ → Type 0
FindsBelow f n = (ts : List Tok) (e : Expression) (rest : List Tok) → length ts < n → ReadsExpression Disjunction ts e rest → tight rest < 1 → f ts ≡ Ok (e, rest)

stop : {level : ℕ} {operand f : Reader} {ts rest : List Tok} {e : Expression} → Goes (operator level) Binary operand f ts e rest → tight rest < level → f ts ≡ Ok (e, rest)
stop {level} {operand} {f} {ts} {rest} {e} g l = ends (operator level) Binary operand g (no_operator level rest l)

step : {level : ℕ} {operand f : Reader} {ts mid rest : List Tok} {a b : Expression} {t : Tok} {o : Op} → Goes (operator level) Binary operand f ts a (t ∷ mid) → infix_operator t ≡ Some (level, o) →
    operand mid ≡ Ok (b, rest) → length rest < length mid → Goes (operator level) Binary operand f ts (Binary o a b) rest
step {level} {operand} {f} {ts} {mid} {rest} {a} {b} {t} {o} g j q l = goes_on (operator level) Binary operand g (an_operator level t o mid j) q (omega (arith, l))

full : (f : Reader) (n : ℕ) → FindsBelow f n → {L : Rule} {ts rest : List Tok} {e : Expression} → ReadsExpression L ts e rest → tight rest < need L → length ts ≤ n → Claim f L ts e rest
unfolding need Claim primary closed applied made conditional amount credit debt resource undefined_of literal negative prefixed product sum comparison negation conjunction disjunction
full f n h (ReadsExpression.OneConjunction r) s l = begins (operator 1) Binary (conjunction f) _ _ _ (stop (full f n h r (omega arith) l) s)
full f n h (ReadsExpression.MoreConjunctions {mid = mid} {t = t} {o = o} j r q) s l =
    step (full f n h r (omega (arith, tight_is t 1 o mid j)) l) j (stop (full f n h q (omega arith) (omega (arith, shorter r))) s) (shorter q)
full f n h (ReadsExpression.OneNegation r) s l = begins (operator 2) Binary (negation f) _ _ _ (full f n h r s l)
full f n h (ReadsExpression.MoreNegations {mid = mid} {t = t} {o = o} j r q) s l =
    step (full f n h r (omega (arith, tight_is t 2 o mid j)) l) j (full f n h q s (omega (arith, shorter r))) (shorter q)
full f n h (ReadsExpression.Not r) s l = rw (full f n h r s (omega arith)) refl
full f n h (ReadsExpression.OneComparison {ts = ts} r) s l = negation_else f ts _ (full f n h r s l)
full f n h (ReadsExpression.OneSum {rest = rest} r) s l = rw (stop (full f n h r (omega arith) l) (omega arith), no_operator 4 rest s) refl
full f n h (ReadsExpression.TwoSums {mid = mid} {rest = rest} {t = t} {o = o} j r q) s l =
    rw (stop (full f n h r (omega (arith, tight_is t 4 o mid j)) l) (omega (arith, tight_is t 4 o mid j)), an_operator 4 t o mid j, stop (full f n h q (omega arith) (omega (arith, shorter r))) (omega arith), no_operator 4 rest s) refl
full f n h (ReadsExpression.OneProduct r) s l = begins (operator 5) Binary (product f) _ _ _ (stop (full f n h r (omega arith) l) s)
full f n h (ReadsExpression.MoreProducts {mid = mid} {t = t} {o = o} j r q) s l =
    step (full f n h r (omega (arith, tight_is t 5 o mid j)) l) j (stop (full f n h q (omega arith) (omega (arith, shorter r))) s) (shorter q)
full f n h (ReadsExpression.OnePrefixed r) s l = begins (operator 6) Binary (prefixed f) _ _ _ (full f n h r s l)
full f n h (ReadsExpression.MorePrefixed {mid = mid} {t = t} {o = o} j r q) s l =
    step (full f n h r (omega (arith, tight_is t 6 o mid j)) l) j (full f n h q s (omega (arith, shorter r))) (shorter q)
full f n h ReadsExpression.NegativeNumber s l = refl
full f n h (ReadsExpression.Minus {ts = ts} e r) s l = minus_else f ts e ∙ ap (under Minus) (full f n h r s (omega arith))
full f n h (ReadsExpression.OnePrimary {ts = ts} r) s l = prefixed_else f ts _ (full f n h r s l)
full f n h ReadsExpression.Number s l = refl
full f n h ReadsExpression.ADay s l = refl
full f n h ReadsExpression.True s l = refl
full f n h ReadsExpression.False s l = refl
full f n h ReadsExpression.AName s l = refl
full f n h (ReadsExpression.Undefined j) s l = rw j refl
full f n h ReadsExpression.Resource s l = refl
full f n h ReadsExpression.NegativeResource s l = refl
full f n h (ReadsExpression.AmountOf r) s l = rw (h _ _ _ (omega arith) r (omega arith)) refl
full f n h (ReadsExpression.KindOf r) s l = rw (h _ _ _ (omega arith) r (omega arith)) refl
full f n h (ReadsExpression.Make r q) s l = rw (h _ _ _ (omega arith) r (omega arith), h _ _ _ (omega (arith, shorter r)) q (omega arith)) refl
full f n h (ReadsExpression.If r q p) s l = rw (h _ _ _ (omega arith) r (omega arith), h _ _ _ (omega (arith, shorter r)) q (omega arith), h _ _ _ (omega (arith, shorter r, shorter q)) p (omega arith)) refl
full f n h (ReadsExpression.Brackets r) s l = rw (h _ _ _ (omega arith) r (omega arith)) refl

-- ---- whole expressions

expression_finds : (n : ℕ) → FindsBelow expression n
unfolding need Claim
expression_finds zero ts e rest l r s = absurd (omega arith)
expression_finds (suc n) ts e rest l r s = expression_again ts ∙ stop (full expression n (expression_finds n) r (omega arith) (omega arith)) s

pub expression_complete : (ts : List Tok) (e : Expression) (rest : List Tok) → ReadsExpression Disjunction ts e rest → tight rest < 1 → expression ts ≡ Ok (e, rest)
expression_complete ts e rest r s = expression_finds (suc (length ts)) ts e rest (omega arith) r s

-- ---- the law

pub whole_expression_complete : (ts : List Tok) (e : Expression) → IsExpression ts e → whole_expression ts ≡ Ok e
unfolding whole_expression
whole_expression_complete ts e r = rw (expression_complete ts e [] r (omega arith)) refl

pub whole_expression_reader : {I : Type 0} {fuel : Fuel I} (n : ℕ) → IsReader n fuel wholes (λ us e rest. IsExpression us e) (λ i us. whole_expression us)
unfolding whole_expression
whole_expression_reader n = followed _ (expression_reader n) (λ e. ended e (λ us r. r))

pub expression_found : (ts : List Tok) (e : Expression) → whole_expression ts ≡ Ok e → IsExpression ts e
expression_found ts e q =
    let reader : IsReader (suc (length ts)) no_fuel wholes (λ us e rest. IsExpression us e) (λ i us. whole_expression us) = whole_expression_reader (suc (length ts)) in
    is_whole (reader.reads ts (omega arith)) q

pub no_expression : (ts : List Tok) (left : ℕ) → whole_expression ts ≡ Err left → (e : Expression) → IsExpression ts e → ⊥
no_expression ts left q e is =
    let clash : Err left ≡ Ok e = sym q ∙ whole_expression_complete ts e is in
    absurd cc
