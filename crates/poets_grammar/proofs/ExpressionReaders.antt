-- The readers of expressions: what they read is an expression, and where they stop nothing else can stand.
use Rattle.std.proofs.Common.{◌≡◌, ◌⊎◌, inl, inr, ℕ, zero, suc, ◌<◌, true, false, List, [], ◌∷◌, ◌++◌, length, Option, Some, None, Ok, Err, refl, ap, subst, ◌∙◌, arith}
use Rattle.std.specs.Prelude.{pos, neg_ℤ}
use Rattle.poets_value.specs.declared.value.Name.{Name}
use Rattle.poets_value.specs.declared.value.Resource.{Resource}
use Rattle.poets_value.specs.declared.value.Value.TheVariants as V
use Rattle.poets_expr.specs.declared.expr.Op.{Op}
use Rattle.poets_expr.specs.Expression.{Minus, Not, AmountOf, KindOf, Expression, Literal, Undefined, Named, Unary, Make, Binary, If}
use Rattle.poets_lex.specs.declared.token.Word.{Word}
use Rattle.poets_lex.specs.declared.token.Word.TheVariants as W
use Rattle.poets_lex.specs.declared.token.Sign.TheVariants as S
use Rattle.poets_lex.specs.declared.token.Tok.{Tok}
use Rattle.poets_lex.specs.declared.token.Tok.TheVariants as K
use Rattle.poets_grammar.specs.Tokens.{infix_operator}
use Rattle.poets_grammar.specs.Expressions.{Rule, Disjunction, Conjunction, Negation, Comparison, Sum, Product, Prefixed, Primary, begins_number, ReadsExpression}
use Rattle.poets_grammar.specs.Reading.{Reader, operator, closed, applied, made, conditional, amount, credit, debt, resource, undefined_of, literal, primary, under, negative, behind_minus, prefixed, product, sum, unless_compared, compared, comparison, negation, conjunction, disjunction, expression_at, expression}
use Rattle.poets_grammar.proofs.Steps.{at_some}
use Rattle.poets_grammar.proofs.Readers.{at_token, at_end, fronts, Begins, Says, Fuel, behind_one, Outcome, IsReader, Branch, Then, followed, followed_outcome, fails, stays, done, takes, like_end, like_token, by_first, weaker_outcome, weaker_reader, remade_outcome, remade, counted, with_enough_reader, one_deeper, refuelled, alike}
use Rattle.poets_grammar.proofs.TokenReaders.{lasts, behind_the_sign, behind_the_word, behind_name, behind_number, behind_type}
use Rattle.poets_grammar.proofs.Joined.{IsLevel, joined_reader}
use Rattle.poets_grammar.proofs.Levels.{IsOperator, operator_is, operator_link}

pub shorter : {L : Rule} {ts rest : List Tok} {e : Expression} → ReadsExpression L ts e rest → length rest < length ts
shorter (ReadsExpression.OneConjunction r) = shorter r
shorter (ReadsExpression.MoreConjunctions j r q) = omega (arith, shorter r, shorter q)
shorter (ReadsExpression.OneNegation r) = shorter r
shorter (ReadsExpression.MoreNegations j r q) = omega (arith, shorter r, shorter q)
shorter (ReadsExpression.Not r) = omega (arith, shorter r)
shorter (ReadsExpression.OneComparison r) = shorter r
shorter (ReadsExpression.OneSum r) = shorter r
shorter (ReadsExpression.TwoSums j r q) = omega (arith, shorter r, shorter q)
shorter (ReadsExpression.OneProduct r) = shorter r
shorter (ReadsExpression.MoreProducts j r q) = omega (arith, shorter r, shorter q)
shorter (ReadsExpression.OnePrefixed r) = shorter r
shorter (ReadsExpression.MorePrefixed j r q) = omega (arith, shorter r, shorter q)
shorter ReadsExpression.NegativeNumber = omega arith
shorter (ReadsExpression.Minus e r) = omega (arith, shorter r)
shorter (ReadsExpression.OnePrimary r) = shorter r
shorter ReadsExpression.Number = omega arith
shorter ReadsExpression.ADay = omega arith
shorter ReadsExpression.True = omega arith
shorter ReadsExpression.False = omega arith
shorter ReadsExpression.AName = omega arith
shorter (ReadsExpression.Undefined j) = omega arith
shorter ReadsExpression.Resource = omega arith
shorter ReadsExpression.NegativeResource = omega arith
shorter (ReadsExpression.AmountOf r) = omega (arith, shorter r)
shorter (ReadsExpression.KindOf r) = omega (arith, shorter r)
shorter (ReadsExpression.Make r q) = omega (arith, shorter r, shorter q)
shorter (ReadsExpression.If r q p) = omega (arith, shorter r, shorter q, shorter p)
shorter (ReadsExpression.Brackets r) = omega (arith, shorter r)

-- ---- resources and the like

-- NUMBER NAME "]"
data ReadsAmount : List Tok → Resource → List Tok → Type 0 where
  AnAmount : {k : ℕ} {x : Name} {rest : List Tok} → ReadsAmount (K.Number (pos k) ∷ K.Name x ∷ K.Sign S.RightBracket ∷ rest) (record { amount = pos k; kind = x }) rest

credited : {us rest : List Tok} {r : Resource} → ReadsAmount us r rest → ReadsExpression Primary (K.Sign S.LeftBracket ∷ us) (Literal (V.Resource r)) rest
credited ReadsAmount.AnAmount = ReadsExpression.Resource

owed : {us rest : List Tok} {r : Resource} → ReadsAmount us r rest →
    ReadsExpression Primary (K.Sign S.LeftBracket ∷ K.Sign S.Minus ∷ us) (Literal (V.Resource (record { amount = neg_ℤ r.amount; kind = r.kind }))) rest
owed ReadsAmount.AnAmount = ReadsExpression.NegativeResource

module _ {I : Type 0} {fuel : Fuel I} {n : ℕ} where
  amount_reader : IsReader n fuel fronts ReadsAmount (λ i us. amount us)
  unfolding amount
  amount_reader = behind_number _ (λ k. behind_name _ (λ x. behind_the_sign S.RightBracket (done (record { amount = pos k; kind = x }) (λ more. ReadsAmount.AnAmount) (λ more. tt))))

  credit_reader : IsReader n fuel fronts (λ us e rest. ReadsExpression Primary (K.Sign S.LeftBracket ∷ us) e rest) (λ i us. credit us)
  unfolding credit
  credit_reader = remade (λ r. Literal (V.Resource r)) (λ us rest r a. credited a) amount_reader

  debt_reader : IsReader n fuel fronts (λ us e rest. ReadsExpression Primary (K.Sign S.LeftBracket ∷ K.Sign S.Minus ∷ us) e rest) (λ i us. debt us)
  unfolding debt
  debt_reader = remade (λ r. Literal (V.Resource (record { amount = neg_ℤ r.amount; kind = r.kind }))) (λ us rest r a. owed a) amount_reader

  resource_reader : IsReader n fuel fronts (λ us e rest. ReadsExpression Primary (K.Sign S.LeftBracket ∷ us) e rest) (λ i us. resource us)
  unfolding resource
  resource_reader = record { reads = outcome; some = credit_reader.some }
    where
      outcome : (ts : List Tok) → length ts < n → Outcome fuel fronts (λ us e rest. ReadsExpression Primary (K.Sign S.LeftBracket ∷ us) e rest) (λ i us. resource us) ts
      outcome (K.Sign S.Minus ∷ ts) lt = takes (K.Sign S.Minus) ts (λ i us l. refl) (lasts fuel) (debt_reader.reads ts (omega arith))
      outcome [] lt = like_end (λ i. refl) (credit_reader.reads [] lt)
      outcome (t ∷ ts) lt = like_token (λ i us. refl) (credit_reader.reads (t ∷ ts) lt)

  undefined_reader : IsReader n fuel fronts (λ us e rest. ReadsExpression Primary (K.Word W.Undefined ∷ us) e rest) (λ i us. undefined_of us)
  unfolding undefined_of
  undefined_reader = behind_type _ (λ w t e. done (Undefined t) (λ more. ReadsExpression.Undefined e) (λ more. tt))

  negative_reader : IsReader n fuel fronts (λ us e rest. ReadsExpression Prefixed (K.Sign S.Minus ∷ us) e rest) (λ i us. negative us)
  unfolding negative
  negative_reader = behind_number _ (λ k. done (Literal (V.Int (neg_ℤ (pos k)))) (λ more. ReadsExpression.NegativeNumber) (λ more. tt))

-- ---- a `-` in front of what is no number

begins_alike : (t : Tok) (us vs : List Tok) → begins_number (t ∷ us) ≡ begins_number (t ∷ vs)
begins_alike (K.Number k) us vs = refl
begins_alike _ us vs = refl

-- what is read of tokens that begin with no number
abbrev ReadsOther : List Tok → Expression → List Tok → Type 0
ReadsOther us e rest = (begins_number us ≡ false) × ReadsExpression Prefixed us e rest

some_other : Begins (λ rest. Unit {0}) ReadsOther []
some_other = record { more = K.Word W.True ∷ []; value = Literal (V.Bool true); is = λ rest stop. (refl, ReadsExpression.OnePrimary ReadsExpression.True) }

says_other : (front rest : List Tok) (found : Option Expression) → begins_number (front ++ rest) ≡ false → Says (λ rest. Unit {0}) (ReadsExpression Prefixed) front rest found →
    Says (λ rest. Unit {0}) ReadsOther front rest found
says_other [] rest None e b = some_other
says_other [] rest (Some x) e s = absurd (omega (arith, shorter (s.0 [] tt)))
says_other (t ∷ front) rest None e b =
    record { more = b.more; value = b.value; is = λ after stop. (begins_alike t (front ++ (b.more ++ after)) (front ++ rest) ∙ e, b.is after stop) }
says_other (t ∷ front) rest (Some x) e s = (λ more stop. (begins_alike t (front ++ more) (front ++ rest) ∙ e, s.0 more stop), tt)

module _ {I : Type 0} {fuel : Fuel I} {f : I → Reader} where
  other_outcome : (ts : List Tok) → begins_number ts ≡ false → Outcome fuel fronts (ReadsExpression Prefixed) f ts → Outcome fuel fronts ReadsOther f ts
  other_outcome ts e o =
      record {
        front = o.front;
        rest = o.rest;
        found = o.found;
        starts = o.starts;
        says = says_other o.front o.rest o.found (subst (λ us. begins_number us ≡ false) o.starts e) o.says;
        steady = o.steady;
      }

  under_minus : (ts : List Tok) → begins_number ts ≡ false → Outcome fuel fronts (ReadsExpression Prefixed) f ts →
      Outcome fuel fronts (λ us e rest. ReadsExpression Prefixed (K.Sign S.Minus ∷ us) e rest) (λ i us. under Minus (f i us)) ts
  under_minus ts e o = remade_outcome (Unary Minus) (λ us rest x r. ReadsExpression.Minus r.0 r.1) (other_outcome ts e o)

  -- after the `-`
  behind_minus_outcome : (ts : List Tok) → Outcome fuel fronts (ReadsExpression Prefixed) f ts →
      Outcome fuel fronts (λ us e rest. ReadsExpression Prefixed (K.Sign S.Minus ∷ us) e rest) (λ i us. behind_minus us (f i us)) ts
  behind_minus_outcome (K.Number k ∷ ts) o =
      let reader : IsReader (suc (suc (length ts))) fuel fronts (λ us e rest. ReadsExpression Prefixed (K.Sign S.Minus ∷ us) e rest) (λ i us. negative us) = negative_reader in
      like_token (λ i us. refl) (reader.reads (K.Number k ∷ ts) (omega arith))
  behind_minus_outcome [] o = like_end (λ i. refl) (under_minus [] refl o)
  behind_minus_outcome (t ∷ ts) o = like_token (λ i us. refl) (under_minus (t ∷ ts) refl o)

-- ---- operands of one level

-- an operator stands after the operands
joining : (level : ℕ) {L : Rule} {ts mid behind : List Tok} {a : Expression} {o : Op} → ReadsExpression L ts a mid → operator level mid ≡ Some (o, behind) →
    (t : Tok) × (infix_operator t ≡ Some (level, o)) × ReadsExpression L ts a (t ∷ behind)
joining level {L} {ts} {mid} {behind} {a} {o} r e =
    let is : IsOperator level mid (o, behind) = at_some (IsOperator level mid) (operator level mid) (o, behind) (operator_is level mid) e in
    (is.token, is.joined, subst (λ x. ReadsExpression L ts a x) is.starts r)

abbrev Level : ℕ → Rule → Rule → Type 0
Level level L M = IsLevel (operator level) Binary (ReadsExpression L) (ReadsExpression M)

disjunctions : Level 1 Disjunction Conjunction
disjunctions = record { one = λ ts rest a r. ReadsExpression.OneConjunction r; more = λ r e q. let j = joining 1 r e in ReadsExpression.MoreConjunctions j.1 j.2 q }

conjunctions : Level 2 Conjunction Negation
conjunctions = record { one = λ ts rest a r. ReadsExpression.OneNegation r; more = λ r e q. let j = joining 2 r e in ReadsExpression.MoreNegations j.1 j.2 q }

sums : Level 5 Sum Product
sums = record { one = λ ts rest a r. ReadsExpression.OneProduct r; more = λ r e q. let j = joining 5 r e in ReadsExpression.MoreProducts j.1 j.2 q }

products : Level 6 Product Prefixed
products = record { one = λ ts rest a r. ReadsExpression.OnePrefixed r; more = λ r e q. let j = joining 6 r e in ReadsExpression.MorePrefixed j.1 j.2 q }

compares : {ts mid behind rest : List Tok} {a b : Expression} {o : Op} → ReadsExpression Sum ts a mid → operator 4 mid ≡ Some (o, behind) → ReadsExpression Sum behind b rest → ReadsExpression Comparison ts (Binary o a b) rest
compares r e q = let j = joining 4 r e in ReadsExpression.TwoSums j.1 j.2 q

-- ---- the rules, over readers of whole expressions

module _ {I : Type 0} {fuel : Fuel I} {f : I → Reader} {n : ℕ} (h : IsReader n fuel fronts (ReadsExpression Disjunction) f) where
  -- a reader by the rule
  abbrev Reads : Rule → (I → Reader) → Type 0
  Reads L g = IsReader (suc n) (behind_one fuel) fronts (ReadsExpression L) g

  abbrev OutcomeOf : Rule → (I → Reader) → List Tok → Type 0
  OutcomeOf L g ts = Outcome (behind_one fuel) fronts (ReadsExpression L) g ts

  closed_reader : IsReader n fuel fronts (λ us e rest. ReadsExpression Disjunction us e (K.Sign S.RightParen ∷ rest)) (λ i us. closed (f i) us)
  unfolding closed
  closed_reader = followed _ h (λ e. behind_the_sign S.RightParen (done e (λ more us r. r) (λ more. tt)))

  amount_of_reader : IsReader n fuel fronts (λ us e rest. ReadsExpression Primary (K.Word W.Amount ∷ us) e rest) (λ i us. applied AmountOf (f i) us)
  unfolding applied
  amount_of_reader = behind_the_sign S.LeftParen (remade (Unary AmountOf) (λ us rest e r. ReadsExpression.AmountOf r) closed_reader)

  kind_of_reader : IsReader n fuel fronts (λ us e rest. ReadsExpression Primary (K.Word W.Kind ∷ us) e rest) (λ i us. applied KindOf (f i) us)
  unfolding applied
  kind_of_reader = behind_the_sign S.LeftParen (remade (Unary KindOf) (λ us rest e r. ReadsExpression.KindOf r) closed_reader)

  made_reader : IsReader n fuel fronts (λ us e rest. ReadsExpression Primary (K.Word W.Res ∷ us) e rest) (λ i us. made (f i) us)
  unfolding made
  made_reader =
      behind_the_sign S.LeftParen (followed _ h (λ a. behind_the_sign S.Comma
      (remade (Make a) (λ us rest b second ws first. ReadsExpression.Make first second) closed_reader)))

  conditional_reader : IsReader n fuel fronts (λ us e rest. ReadsExpression Primary (K.Word W.If ∷ us) e rest) (λ i us. conditional (f i) us)
  unfolding conditional
  conditional_reader =
      followed _ h (λ a. behind_the_word W.Then (followed _ h (λ b. behind_the_word W.Else (followed _ h (λ c. behind_the_word W.End
      (done (If a b c) (λ more us third vs second ws first. ReadsExpression.If first second third) (λ more. tt)))))))

  abbrev PrimaryBranch : Tok → Type 0
  PrimaryBranch t = Branch n fuel fronts (ReadsExpression Primary) (λ i us. primary (f i) us) t

  at_word : (w : Word) → PrimaryBranch (K.Word w)
  unfolding primary
  at_word W.True = Branch.Takes (λ i us. Ok (Literal (V.Bool true), us)) (λ i us. refl) (done (Literal (V.Bool true)) (λ more. ReadsExpression.True) (λ more. tt))
  at_word W.False = Branch.Takes (λ i us. Ok (Literal (V.Bool false), us)) (λ i us. refl) (done (Literal (V.Bool false)) (λ more. ReadsExpression.False) (λ more. tt))
  at_word W.Undefined = Branch.Takes (λ i us. undefined_of us) (λ i us. refl) undefined_reader
  at_word W.Amount = Branch.Takes (λ i us. applied AmountOf (f i) us) (λ i us. refl) amount_of_reader
  at_word W.Kind = Branch.Takes (λ i us. applied KindOf (f i) us) (λ i us. refl) kind_of_reader
  at_word W.Res = Branch.Takes (λ i us. made (f i) us) (λ i us. refl) made_reader
  at_word W.If = Branch.Takes (λ i us. conditional (f i) us) (λ i us. refl) conditional_reader
  at_word _ = Branch.GivesUp (λ i us. refl)

  at_first_token : (t : Tok) → PrimaryBranch t
  unfolding primary literal
  at_first_token (K.Number (pos k)) = Branch.Takes (λ i us. Ok (Literal (V.Int (pos k)), us)) (λ i us. refl) (done (Literal (V.Int (pos k))) (λ more. ReadsExpression.Number) (λ more. tt))
  at_first_token (K.Day d) = Branch.Takes (λ i us. Ok (Literal (V.Day d), us)) (λ i us. refl) (done (Literal (V.Day d)) (λ more. ReadsExpression.ADay) (λ more. tt))
  at_first_token (K.Name x) = Branch.Takes (λ i us. Ok (Named x, us)) (λ i us. refl) (done (Named x) (λ more. ReadsExpression.AName) (λ more. tt))
  at_first_token (K.Word w) = at_word w
  at_first_token (K.Sign S.LeftBracket) = Branch.Takes (λ i us. resource us) (λ i us. refl) resource_reader
  at_first_token (K.Sign S.LeftParen) = Branch.Takes (λ i us. closed (f i) us) (λ i us. refl) (weaker_reader (λ us rest e r. ReadsExpression.Brackets r) closed_reader)
  at_first_token _ = Branch.GivesUp (λ i us. refl)

  some_primary : Begins (λ rest. Unit {0}) (ReadsExpression Primary) []
  some_primary = record { more = K.Word W.True ∷ []; value = Literal (V.Bool true); is = λ rest stop. ReadsExpression.True }

  primary_reader : Reads Primary (λ i us. primary (f i) us)
  unfolding primary
  primary_reader = by_first (λ i a l. l a (omega arith)) some_primary (omega arith) (λ i. refl) at_first_token

  prefixed_outcome : (ts : List Tok) → length ts < suc n → OutcomeOf Prefixed (λ i us. prefixed (f i) us) ts
  unfolding prefixed
  prefixed_outcome (K.Sign S.Minus ∷ ts) lt = takes (K.Sign S.Minus) ts (λ i us l. refl) (lasts (behind_one fuel)) (behind_minus_outcome ts (prefixed_outcome ts (omega arith)))
  prefixed_outcome [] lt = like_end (λ i. refl) (weaker_outcome (λ us rest e r. ReadsExpression.OnePrimary r) (primary_reader.reads [] lt))
  prefixed_outcome (t ∷ ts) lt = like_token (λ i us. refl) (weaker_outcome (λ us rest e r. ReadsExpression.OnePrimary r) (primary_reader.reads (t ∷ ts) lt))

  prefixed_reader : Reads Prefixed (λ i us. prefixed (f i) us)
  prefixed_reader = record { reads = prefixed_outcome; some = (weaker_reader (λ us rest e r. ReadsExpression.OnePrimary r) primary_reader).some }

  product_reader : Reads Product (λ i us. product (f i) us)
  unfolding product
  product_reader = joined_reader prefixed_reader (operator_link 6) products

  sum_reader : Reads Sum (λ i us. sum (f i) us)
  unfolding sum
  sum_reader = joined_reader product_reader (operator_link 5) sums

  -- ---- comparisons

  -- after a `=` and two sums
  abbrev Compared : Tok → Expression → Expression → List Tok → Expression → List Tok → Type 0
  Compared t a b = Then (ReadsExpression Sum) (λ us e rest. Then (ReadsExpression Sum) (ReadsExpression Comparison) a (t ∷ us) e rest) b

  unless_at : (t : Tok) (a b : Expression) (o : Op) → ((us : List Tok) → operator 4 (t ∷ us) ≡ Some (o, us)) → (u : Tok) (us : List Tok) →
      ((ws : List Tok) → operator 4 (u ∷ ws) ≡ None) ⊎ ((p : Op) × ((ws : List Tok) → operator 4 (u ∷ ws) ≡ Some (p, ws))) →
      Outcome (behind_one fuel) fronts (Compared t a b) (λ i us. unless_compared (Binary o a b) us (operator 4 us)) (u ∷ us)
  unless_at t a b o some u us (inl none) =
      stays (u ∷ us) (Binary o a b) (λ more stop ws r vs q. compares q (some ws) r) tt
      (λ i ws s l. ap (unless_compared (Binary o a b) ws) (at_token (λ xs. operator 4 xs ≡ None) none s))
  unless_at t a b o some u us (inr p) =
      fails (u ∷ us) (record { more = []; value = Binary o a b; is = λ more stop ws r vs q. compares q (some ws) r })
      (λ i ws s l. at_token (λ xs. unless_compared (Binary o a b) xs (operator 4 xs) ≡ Err (length xs)) (λ xs. ap (unless_compared (Binary o a b) (u ∷ xs)) (p.1 xs)) s)

  unless_reader : (t : Tok) (a b : Expression) (o : Op) → ((us : List Tok) → operator 4 (t ∷ us) ≡ Some (o, us)) →
      IsReader (suc n) (behind_one fuel) fronts (Compared t a b) (λ i us. unless_compared (Binary o a b) us (operator 4 us))
  unless_reader t a b o some = record { reads = outcome; some = record { more = []; value = Binary o a b; is = λ more stop ws r vs q. compares q (some ws) r } }
    where
      outcome : (ts : List Tok) → length ts < suc n → Outcome (behind_one fuel) fronts (Compared t a b) (λ i us. unless_compared (Binary o a b) us (operator 4 us)) ts
      outcome [] lt =
          stays [] (Binary o a b) (λ more stop ws r vs q. compares q (some ws) r) tt
          (λ i ws s l. ap (unless_compared (Binary o a b) ws) (at_end (λ xs. operator 4 xs ≡ None) refl s))
      outcome (u ∷ us) lt = unless_at t a b o some u us ((operator_link 4).by_token u)

  compared_at : (a : Expression) (t : Tok) (ts : List Tok) → length ts < suc n →
      ((us : List Tok) → operator 4 (t ∷ us) ≡ None) ⊎ ((o : Op) × ((us : List Tok) → operator 4 (t ∷ us) ≡ Some (o, us))) →
      Outcome (behind_one fuel) fronts (Then (ReadsExpression Sum) (ReadsExpression Comparison) a) (λ i us. compared (sum (f i)) a us (operator 4 us)) (t ∷ ts)
  compared_at a t ts lt (inl none) =
      stays (t ∷ ts) a (λ more stop us r. ReadsExpression.OneSum r) tt (λ i us s l. ap (compared (sum (f i)) a us) (at_token (λ ws. operator 4 ws ≡ None) none s))
  compared_at a t ts lt (inr o) =
      takes t ts (λ i us l. ap (compared (sum (f i)) a (t ∷ us)) (o.1 us)) (lasts (behind_one fuel))
      (followed_outcome (λ i b. unless_compared (Binary o.0 a b.0) b.1 (operator 4 b.1)) lt (sum_reader.reads ts lt) (λ b. unless_reader t a b o.0 o.1))

  compared_reader : (a : Expression) → IsReader (suc n) (behind_one fuel) fronts (Then (ReadsExpression Sum) (ReadsExpression Comparison) a) (λ i us. compared (sum (f i)) a us (operator 4 us))
  compared_reader a = record { reads = outcome; some = record { more = []; value = a; is = λ more stop us r. ReadsExpression.OneSum r } }
    where
      outcome : (ts : List Tok) → length ts < suc n → Outcome (behind_one fuel) fronts (Then (ReadsExpression Sum) (ReadsExpression Comparison) a) (λ i us. compared (sum (f i)) a us (operator 4 us)) ts
      outcome [] lt = stays [] a (λ more stop us r. ReadsExpression.OneSum r) tt (λ i us s l. ap (compared (sum (f i)) a us) (at_end (λ ws. operator 4 ws ≡ None) refl s))
      outcome (t ∷ ts) lt = compared_at a t ts (omega arith) ((operator_link 4).by_token t)

  comparison_reader : Reads Comparison (λ i us. comparison (f i) us)
  unfolding comparison
  comparison_reader = followed (λ i a. compared (sum (f i)) a.0 a.1 (operator 4 a.1)) sum_reader compared_reader

  -- ---- looser rules

  negation_outcome : (ts : List Tok) → length ts < suc n → OutcomeOf Negation (λ i us. negation (f i) us) ts
  unfolding negation
  negation_outcome (K.Word W.Not ∷ ts) lt =
      takes (K.Word W.Not) ts (λ i us l. refl) (lasts (behind_one fuel)) (remade_outcome (Unary Not) (λ us rest e r. ReadsExpression.Not r) (negation_outcome ts (omega arith)))
  negation_outcome [] lt = like_end (λ i. refl) (weaker_outcome (λ us rest e r. ReadsExpression.OneComparison r) (comparison_reader.reads [] lt))
  negation_outcome (t ∷ ts) lt = like_token (λ i us. refl) (weaker_outcome (λ us rest e r. ReadsExpression.OneComparison r) (comparison_reader.reads (t ∷ ts) lt))

  negation_reader : Reads Negation (λ i us. negation (f i) us)
  negation_reader = record { reads = negation_outcome; some = (weaker_reader (λ us rest e r. ReadsExpression.OneComparison r) comparison_reader).some }

  conjunction_reader : Reads Conjunction (λ i us. conjunction (f i) us)
  unfolding conjunction
  conjunction_reader = joined_reader negation_reader (operator_link 2) conjunctions

  disjunction_reader : Reads Disjunction (λ i us. disjunction (f i) us)
  unfolding disjunction
  disjunction_reader = joined_reader conjunction_reader (operator_link 1) disjunctions

-- ---- whole expressions

some_expression : Begins (λ rest. Unit {0}) (ReadsExpression Disjunction) []
some_expression =
    record {
      more = K.Word W.True ∷ [];
      value = Literal (V.Bool true);
      is = λ rest stop. ReadsExpression.OneConjunction (ReadsExpression.OneNegation (ReadsExpression.OneComparison (ReadsExpression.OneSum (ReadsExpression.OneProduct
          (ReadsExpression.OnePrefixed (ReadsExpression.OnePrimary ReadsExpression.True))))));
    }

expression_at_reader : (n : ℕ) → IsReader n counted fronts (ReadsExpression Disjunction) expression_at
unfolding expression_at
expression_at_reader zero = record { reads = λ ts lt. absurd (omega arith); some = some_expression }
expression_at_reader (suc n) = one_deeper (λ k us. refl) (disjunction_reader (expression_at_reader n))

pub expression_reader : {I : Type 0} {fuel : Fuel I} (n : ℕ) → IsReader n fuel fronts (ReadsExpression Disjunction) (λ i us. expression us)
unfolding expression
expression_reader n = refuelled (λ i us. suc (length us)) (λ i us l. omega arith) (λ i us l. refl) (expression_at_reader n)

-- reading is by the rules, with itself for the parts
pub expression_again : (ts : List Tok) → expression ts ≡ disjunction expression ts
unfolding expression expression_at
expression_again ts =
    let reader = disjunction_reader (with_enough_reader (expression_at_reader (length ts))) in
    alike (reader.reads ts (omega arith)) (Some (length ts)) None (λ a l. l) (λ a l. tt)
