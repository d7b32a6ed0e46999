-- The brackets of a printed expression against those of the tokens that were read.
use Rattle.std.proofs.Common.{◌≡◌, ℕ, suc, ◌+◌, ◌≤◌, max, Bool, true, false, List, ◌∷◌, Some, refl, arith, subst}
use Rattle.std.specs.Prelude.{nat_lt, nat_eq, Option, None, option_map}
use Rattle.std.proofs.lemmas.Bool.Decides.{nat_tests}
use Rattle.poets_value.specs.declared.value.Value.TheVariants as V
use Rattle.poets_expr.specs.declared.expr.Op.{Op}
use Rattle.poets_expr.specs.declared.expr.Op.TheVariants as O
use Rattle.poets_expr.specs.Expression.{Expression, Minus, Not, Literal, Unary, Binary}
use Rattle.poets_lex.specs.declared.token.Word.TheVariants as W
use Rattle.poets_lex.specs.declared.token.Sign.TheVariants as S
use Rattle.poets_lex.specs.declared.token.Tok.{Tok}
use Rattle.poets_lex.specs.declared.token.Tok.TheVariants as K
use Rattle.poets_grammar.specs.Tokens.{token_operator, infix_operator}
use Rattle.poets_grammar.specs.Expressions.{Rule, Disjunction, Conjunction, Negation, Comparison, Sum, Product}
use Rattle.poets_grammar.specs.Expressions.{Prefixed, Primary, ReadsExpression}
use Rattle.poets_grammar.specs.Levels.{op_level}
use Rattle.poets_print.specs.Levels.{level, left_in_brackets, right_in_brackets, negated_in_brackets}
use Rattle.poets_printed.proofs.Measures.{Fits, opened, deeper, depth}

-- the depth of the expression where a level is wanted
depth_at : ℕ → Expression → ℕ
depth_at l e = deeper (nat_lt (level e) l) (depth e)

-- the level of a rule
tightness : Rule → ℕ
tightness Disjunction = 1
tightness Conjunction = 2
tightness Negation = 3
tightness Comparison = 4
tightness Sum = 5
tightness Product = 6
tightness Prefixed = 7
tightness Primary = 8

pub deeper_less : (b c : Bool) (d : ℕ) → (b ≡ true → c ≡ true) → deeper b d ≤ deeper c d
deeper_less false false d h = omega arith
deeper_less false true d h = omega arith
deeper_less true true d h = omega arith
deeper_less true false d h = absurd (cc (h refl))

pub deeper_most : (b : Bool) (d : ℕ) → deeper b d ≤ suc d
deeper_most true d = omega arith
deeper_most false d = omega arith

pub deeper_not : (b : Bool) (d : ℕ) → b ≡ false → deeper b d ≡ d
deeper_not false d h = refl
deeper_not true d h = absurd (cc)

at_looser : (l : ℕ) (e : Expression) → depth_at l e ≤ depth_at (suc l) e
unfolding depth_at
at_looser l e =
    deeper_less (nat_lt (level e) l) (nat_lt (level e) (suc l)) (depth e) (λ h. grind (arith, nat_tests))

at_most : (l : ℕ) (e : Expression) → depth_at l e ≤ suc (depth e)
unfolding depth_at
at_most l e = deeper_most (nat_lt (level e) l) (depth e)

at_level : (l : ℕ) (e : Expression) → l ≤ level e → depth_at l e ≡ depth e
unfolding depth_at
at_level l e h = deeper_not (nat_lt (level e) l) (depth e) (grind (arith, nat_tests))

level_least : (e : Expression) → 1 ≤ level e
level_least (Binary O.Or a b) = omega arith
level_least (Binary o a b) = omega arith
level_least (Unary Not a) = omega arith
level_least (Unary Minus a) = omega arith
level_least e = omega arith

at_first : (e : Expression) → depth_at 1 e ≡ depth e
at_first e = at_level 1 e (level_least e)

-- ---- operators

same_level : (p q : ℕ × Op) → Some p ≡ Some q → op_level p.1 ≡ p.0 → op_level q.1 ≡ q.0
same_level p q e h = let same : p ≡ q = cc in subst (λ (x : ℕ × Op). op_level x.1 ≡ x.0) same h

level_of_some : (k : Option Op) (l : ℕ) (o : Op) → option_map {U = ℕ × Op} (λ x. (op_level x, x)) k ≡ Some (l, o) → op_level o ≡ l
level_of_some None l o h = absurd (cc)
level_of_some (Some k) l o h = same_level (op_level k, k) (l, o) h refl

level_of_operator : (t : Tok) (l : ℕ) (o : Op) → infix_operator t ≡ Some (l, o) → op_level o ≡ l
level_of_operator t l o h = level_of_some (token_operator t) l o h

no_bracket : (t : Tok) (l n : ℕ) (o : Op) → infix_operator t ≡ Some (l, o) → opened n t ≡ n
no_bracket (K.Sign S.LeftParen) l n o h = absurd (cc)
no_bracket (K.Sign S.RightParen) l n o h = absurd (cc)
no_bracket (K.Sign s) l n o h = refl
no_bracket t l n o h = refl

left_less :
    (o : Op) (a : Expression) (l : ℕ) → op_level o ≡ l → nat_eq l 4 ≡ false →
    deeper (left_in_brackets o a) (depth a) ≤ depth_at l a
unfolding depth_at
left_less o a l h f =
    deeper_less (left_in_brackets o a) (nat_lt (level a) l) (depth a) (λ q. grind (arith, nat_tests))

left_less_compared :
    (o : Op) (a : Expression) → op_level o ≡ 4 → deeper (left_in_brackets o a) (depth a) ≤ depth_at 5 a
unfolding depth_at
left_less_compared o a h =
    deeper_less (left_in_brackets o a) (nat_lt (level a) 5) (depth a) (λ q. grind (arith, nat_tests))

right_less :
    (o : Op) (b : Expression) (l : ℕ) → op_level o ≡ l →
    deeper (right_in_brackets o b) (depth b) ≤ depth_at (suc l) b
unfolding depth_at
right_less o b l h =
    deeper_less (right_in_brackets o b) (nat_lt (level b) (suc l)) (depth b) (λ q. grind (arith, nat_tests))

-- the printed expression fits with one bracket more, and what is behind it fits as it is
record Keeps (l : ℕ) (e : Expression) (ts rest : List Tok) : Type 0 where
  within : (most n : ℕ) → Fits most n ts → (n + depth_at l e ≤ suc most) × Fits most n rest

looser : {l : ℕ} {e : Expression} {ts rest : List Tok} → Keeps (suc l) e ts rest → Keeps l e ts rest
looser {l = l} {e = e} k = record {
  within = λ most n h. let p = k.within most n h in (omega (arith, p.0, at_looser l e), p.1);
}

joined :
    {l : ℕ} {a b : Expression} {ts mid rest : List Tok} {t : Tok} {o : Op} →
    nat_eq l 4 ≡ false → infix_operator t ≡ Some (l, o) →
    Keeps l a ts (t ∷ mid) → Keeps (suc l) b mid rest → Keeps l (Binary o a b) ts rest
joined {l = l} {a = a} {b = b} {mid = mid} {t = t} {o = o} f j k q = record {
  within = λ most n h.
      let p = k.within most n h in
      let same = no_bracket t l n o j in
      let r = q.within most n (subst (λ (i : ℕ). Fits most i mid) same p.1.1) in
      let is = level_of_operator t l o j in
      let whole = at_level l (Binary o a b) (omega (arith, is)) in
      (omega (arith, p.0, r.0, whole, left_less o a l is f, right_less o b l is), r.1);
}

compared :
    {a b : Expression} {ts mid rest : List Tok} {t : Tok} {o : Op} → infix_operator t ≡ Some (4, o) →
    Keeps 5 a ts (t ∷ mid) → Keeps 5 b mid rest → Keeps 4 (Binary o a b) ts rest
compared {a = a} {b = b} {mid = mid} {t = t} {o = o} j k q = record {
  within = λ most n h.
      let p = k.within most n h in
      let same = no_bracket t 4 n o j in
      let r = q.within most n (subst (λ (i : ℕ). Fits most i mid) same p.1.1) in
      let is = level_of_operator t 4 o j in
      let whole = at_level 4 (Binary o a b) (omega (arith, is)) in
      (omega (arith, p.0, r.0, whole, left_less_compared o a is, right_less o b 4 is), r.1);
}

denied : {a : Expression} {ts rest : List Tok} → Keeps 3 a ts rest → Keeps 3 (Unary Not a) (K.Word W.Not ∷ ts) rest
unfolding depth_at
denied k = record { within = λ most n h. k.within most n h.1 }

-- a number is bracketed, and need not have been
negated_less : (a : Expression) → deeper (negated_in_brackets a) (depth a) ≤ max 1 (depth_at 7 a)
unfolding depth_at
negated_less (Literal (V.Int z)) = omega arith
negated_less a = omega arith

negated :
    {a : Expression} {ts rest : List Tok} →
    Keeps 7 a ts rest → Keeps 7 (Unary Minus a) (K.Sign S.Minus ∷ ts) rest
negated {a = a} k = record {
  within = λ most n h.
      let p = k.within most n h.1 in
      (omega (arith, p.0, h.0, negated_less a, at_level 7 (Unary Minus a) (omega arith)), p.1);
}

keeps :
    {r : Rule} {ts rest : List Tok} {e : Expression} → ReadsExpression r ts e rest → Keeps (tightness r) e ts rest
unfolding tightness depth_at
keeps (ReadsExpression.OneConjunction r) = looser (keeps r)
keeps (ReadsExpression.MoreConjunctions j r q) = joined refl j (keeps r) (keeps q)
keeps (ReadsExpression.OneNegation r) = looser (keeps r)
keeps (ReadsExpression.MoreNegations j r q) = joined refl j (keeps r) (keeps q)
keeps (ReadsExpression.Not r) = denied (keeps r)
keeps (ReadsExpression.OneComparison r) = looser (keeps r)
keeps (ReadsExpression.OneSum r) = looser (keeps r)
keeps (ReadsExpression.TwoSums j r q) = compared j (keeps r) (keeps q)
keeps (ReadsExpression.OneProduct r) = looser (keeps r)
keeps (ReadsExpression.MoreProducts j r q) = joined refl j (keeps r) (keeps q)
keeps (ReadsExpression.OnePrefixed r) = looser (keeps r)
keeps (ReadsExpression.MorePrefixed j r q) = joined refl j (keeps r) (keeps q)
keeps (ReadsExpression.NegativeNumber) = record { within = λ most n h. (omega (arith, h.0), h.1.1) }
keeps (ReadsExpression.Minus _ r) = negated (keeps r)
keeps (ReadsExpression.OnePrimary r) = looser (keeps r)
keeps (ReadsExpression.Number) = record { within = λ most n h. (omega (arith, h.0), h.1) }
keeps (ReadsExpression.ADay) = record { within = λ most n h. (omega (arith, h.0), h.1) }
keeps (ReadsExpression.True) = record { within = λ most n h. (omega (arith, h.0), h.1) }
keeps (ReadsExpression.False) = record { within = λ most n h. (omega (arith, h.0), h.1) }
keeps (ReadsExpression.AName) = record { within = λ most n h. (omega (arith, h.0), h.1) }
keeps (ReadsExpression.Undefined w) = record { within = λ most n h. (omega (arith, h.0), h.1.1) }
keeps (ReadsExpression.Resource) = record { within = λ most n h. (omega (arith, h.0), h.1.1.1.1) }
keeps (ReadsExpression.NegativeResource) = record { within = λ most n h. (omega (arith, h.0), h.1.1.1.1.1) }
keeps (ReadsExpression.AmountOf {e = e} r) = record {
  within = λ most n h. let p = (keeps r).within most (suc n) h.1.1 in (omega (arith, p.0, at_first e), p.1.1);
}
keeps (ReadsExpression.KindOf {e = e} r) = record {
  within = λ most n h. let p = (keeps r).within most (suc n) h.1.1 in (omega (arith, p.0, at_first e), p.1.1);
}
keeps (ReadsExpression.Make {a = a} {b = b} r q) = record {
  within = λ most n h.
      let p = (keeps r).within most (suc n) h.1.1 in
      let s = (keeps q).within most (suc n) p.1.1 in
      (omega (arith, p.0, s.0, at_first a, at_first b), s.1.1);
}
keeps (ReadsExpression.If {a = a} {b = b} {c = c} r q w) = record {
  within = λ most n h.
      let p = (keeps r).within most n h.1 in
      let s = (keeps q).within most n p.1.1 in
      let u = (keeps w).within most n s.1.1 in
      (omega (arith, p.0, s.0, u.0, at_first a, at_first b, at_first c), u.1.1);
}
keeps (ReadsExpression.Brackets {e = e} r) = record {
  within = λ most n h.
      let p = (keeps r).within most (suc n) h.1 in
      (omega (arith, p.0, at_first e, at_most 8 e), p.1.1);
}

-- a whole expression
pub keeps_first :
    {ts rest : List Tok} {e : Expression} → ReadsExpression Disjunction ts e rest →
    (most n : ℕ) → Fits most n ts → (n + depth e ≤ suc most) × Fits most n rest
unfolding tightness
keeps_first {e = e} r most n h = let p = (keeps r).within most n h in (omega (arith, p.0, at_first e), p.1)
