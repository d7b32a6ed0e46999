-- What the text of an expression is: that expression.
use Rattle.std.proofs.Common.{◌≡◌, ℕ, zero, suc, ◌<◌, ◌≤◌, Bool, true, false, List, ◌∷◌, ◌++◌, length, Some, refl, arith, append_assoc, ℤ, pos, negsuc}
use Rattle.std.specs.Prelude.{if◌then◌else◌, nat_eq}
use Rattle.std.specs.Bool.{IsTrue}
use Rattle.std.proofs.lemmas.Bool.{ltb-false}
use Rattle.std.proofs.lemmas.Bool.Decides.{nat_tests}
use Rattle.std.proofs.lemmas.Int.{ints}
use Rattle.poets_value.specs.declared.value.Name.{Name}
use Rattle.poets_value.specs.declared.value.Ty.{Ty}
use Rattle.poets_value.specs.declared.value.Ty.TheVariants as T
use Rattle.poets_value.specs.declared.value.Value.{Value}
use Rattle.poets_value.specs.declared.value.Value.TheVariants as V
use Rattle.poets_value.specs.Civil.{day_text}
use Rattle.poets_value.specs.Whole.{is_whole, IsWholeValue}
use Rattle.poets_value.proofs.EachDay.{IsDayText-day_text}
use Rattle.poets_expr.specs.declared.expr.Op.{Op}
use Rattle.poets_expr.specs.declared.expr.Op.TheVariants as O
use Rattle.poets_expr.specs.Expression.{Expression, Minus, Not, AmountOf, KindOf, Literal, Undefined, Named, Unary, Make, Binary, If}
use Rattle.poets_expr.specs.Whole.{IsWholeExpression}
use Rattle.poets_lex.specs.declared.token.Word.{Word}
use Rattle.poets_lex.specs.declared.token.Word.TheVariants as W
use Rattle.poets_lex.specs.declared.token.Sign.TheVariants as S
use Rattle.poets_lex.specs.declared.token.Tok.{Tok}
use Rattle.poets_lex.specs.declared.token.Tok.TheVariants as K
use Rattle.poets_lex.specs.Texts.{word_text}
use Rattle.poets_lex.specs.Table.{Table, IsTable}
use Rattle.poets_lex.proofs.CutTexts.{IsCutInto, cut_space, cut_word, cut_name, cut_number, cut_day, cut_sign, cut_spaced}
use Rattle.poets_grammar.specs.Tokens.{infix_operator, type_of}
use Rattle.poets_grammar.specs.Expressions.{Rule, Disjunction, Conjunction, Negation, Comparison, Sum, Product, Prefixed, Primary, ReadsExpression, begins_number}
use Rattle.poets_grammar.specs.Levels.{op_level}
use Rattle.poets_print.specs.Levels.{level, left_in_brackets, right_in_brackets, negated_in_brackets, denied_in_brackets}
use Rattle.poets_print.specs.Texts.{bracketed, op_text, type_text, value_text, expression_text}
use Rattle.poets_print.specs.Laws.{HasLiteral, CanWrite}
use Rattle.poets_print.proofs.Writing.{IsTextOf, Writes, writes_looser, writes_bracketed}

-- the rule of a level
rule : ℕ → Rule
rule zero = Disjunction
rule (suc zero) = Disjunction
rule (suc (suc zero)) = Conjunction
rule (suc (suc (suc zero))) = Negation
rule (suc (suc (suc (suc zero)))) = Comparison
rule (suc (suc (suc (suc (suc zero))))) = Sum
rule (suc (suc (suc (suc (suc (suc zero)))))) = Product
rule (suc (suc (suc (suc (suc (suc (suc n))))))) = Prefixed

-- level 8 are those of level 7 that do not begin with a number
record ReadsLevel (n : ℕ) (ts : List Tok) (e : Expression) (rest : List Tok) : Type 0 where
  reads : ReadsExpression (rule n) ts e rest
  opens : 8 ≤ n → begins_number ts ≡ false

looser_rule : (n : ℕ) (ts : List Tok) (e : Expression) (rest : List Tok) → ReadsExpression (rule (suc n)) ts e rest → ReadsExpression (rule n) ts e rest
unfolding rule
looser_rule zero ts e rest r = r
looser_rule (suc zero) ts e rest r = ReadsExpression.OneConjunction r
looser_rule (suc (suc zero)) ts e rest r = ReadsExpression.OneNegation r
looser_rule (suc (suc (suc zero))) ts e rest r = ReadsExpression.OneComparison r
looser_rule (suc (suc (suc (suc zero)))) ts e rest r = ReadsExpression.OneSum r
looser_rule (suc (suc (suc (suc (suc zero))))) ts e rest r = ReadsExpression.OneProduct r
looser_rule (suc (suc (suc (suc (suc (suc zero)))))) ts e rest r = ReadsExpression.OnePrefixed r
looser_rule (suc (suc (suc (suc (suc (suc (suc n))))))) ts e rest r = r

looser : (n : ℕ) (ts : List Tok) (e : Expression) (rest : List Tok) → ReadsLevel (suc n) ts e rest → ReadsLevel n ts e rest
looser n ts e rest r = record { reads = looser_rule n ts e rest r.reads; opens = λ high. r.opens (omega arith) }

brackets : (ts : List Tok) (e : Expression) (rest : List Tok) → ReadsLevel 0 ts e (K.Sign S.RightParen ∷ rest) → ReadsLevel 8 (K.Sign S.LeftParen ∷ ts) e rest
unfolding rule
brackets ts e rest r = record { reads = ReadsExpression.OnePrimary (ReadsExpression.Brackets r.reads); opens = λ high. refl }

-- the level whose rule has the expression
grade : Expression → ℕ
grade (Literal (V.Int z)) = 7
grade (Unary Not a) = 3
grade (Binary o a b) = op_level o
grade _ = 8

op_low : (o : Op) → op_level o ≤ 6
op_low O.Or = omega arith
op_low o = omega arith

level_grade : (e : Expression) (n : ℕ) → n ≤ 7 → n ≤ level e → n ≤ grade e
unfolding grade
level_grade (Literal (V.Int z)) n high h = high
level_grade (Unary Not a) n high h = h
level_grade (Binary o a b) n high h = h
level_grade e n high h = omega arith

negated_grade : (e : Expression) → negated_in_brackets e ≡ false → 8 ≤ grade e
unfolding grade
negated_grade (Literal (V.Int z)) h = absurd (cc)
negated_grade (Unary Not a) h = absurd (cc)
negated_grade (Binary o a b) h = absurd (omega (arith, op_low o, ltb-false (op_level o) 7 h))
negated_grade e h = omega arith

-- the least level of a left part
left_level : Op → ℕ
left_level o = if nat_eq (op_level o) 4 then 5 else op_level o

left_low : (o : Op) → left_level o ≤ 7
unfolding left_level
left_low o = grind (arith, nat_tests, op_low)

left_grade : (o : Op) (e : Expression) → left_in_brackets o e ≡ false → left_level o ≤ grade e
unfolding left_level
left_grade o e h = level_grade e (left_level o) (left_low o) (grind (arith, nat_tests))

right_grade : (o : Op) (e : Expression) → right_in_brackets o e ≡ false → suc (op_level o) ≤ grade e
right_grade o e h = level_grade e (suc (op_level o)) (omega (arith, op_low o)) (grind (arith, nat_tests))

-- an operator with the spaces round it
operator : {table : Table} {rest : List ℕ} {behind : List Tok} (o : Op) → IsCutInto table rest behind →
    (t : Tok) × (infix_operator t ≡ Some (op_level o, o)) × IsCutInto table (32 ∷ (op_text o ++ 32 ∷ rest)) (t ∷ behind)
operator O.Add cut = (K.Sign S.Plus, refl, cut_space (cut_spaced S.Plus cut))
operator O.Sub cut = (K.Sign S.Minus, refl, cut_space (cut_spaced S.Minus cut))
operator O.Mul cut = (K.Sign S.Star, refl, cut_space (cut_spaced S.Star cut))
operator O.Div cut = (K.Sign S.Slash, refl, cut_space (cut_spaced S.Slash cut))
operator O.Rem cut = (K.Sign S.Percent, refl, cut_space (cut_spaced S.Percent cut))
operator O.Eq cut = (K.Sign S.Equal, refl, cut_space (cut_spaced S.Equal cut))
operator O.Ne cut = (K.Sign S.NotEqual, refl, cut_space (cut_spaced S.NotEqual cut))
operator O.Lt cut = (K.Sign S.Less, refl, cut_space (cut_spaced S.Less cut))
operator O.Le cut = (K.Sign S.LessEqual, refl, cut_space (cut_spaced S.LessEqual cut))
operator O.Gt cut = (K.Sign S.Greater, refl, cut_space (cut_spaced S.Greater cut))
operator O.Ge cut = (K.Sign S.GreaterEqual, refl, cut_space (cut_spaced S.GreaterEqual cut))
operator O.And cut = (K.Word W.And, refl, cut_space (cut_word W.And (cut_space cut) refl))
operator O.Or cut = (K.Word W.Or, refl, cut_space (cut_word W.Or (cut_space cut) refl))

-- two operands of their levels
binary : (o : Op) {a b : Expression} {ts mid rest : List Tok} {t : Tok} → infix_operator t ≡ Some (op_level o, o) →
    ReadsExpression (rule (left_level o)) ts a (t ∷ mid) → ReadsExpression (rule (suc (op_level o))) mid b rest → ReadsExpression (rule (op_level o)) ts (Binary o a b) rest
unfolding rule left_level
binary O.Or j r q = ReadsExpression.MoreConjunctions j r q
binary O.And j r q = ReadsExpression.MoreNegations j r q
binary O.Add j r q = ReadsExpression.MoreProducts j r q
binary O.Sub j r q = ReadsExpression.MoreProducts j r q
binary O.Mul j r q = ReadsExpression.MorePrefixed j r q
binary O.Div j r q = ReadsExpression.MorePrefixed j r q
binary O.Rem j r q = ReadsExpression.MorePrefixed j r q
binary o j r q = ReadsExpression.TwoSums j r q

-- a text whose tokens are a primary, and no number
primary : {table : Table} {text : List ℕ} {ts behind : List Tok} {e : Expression} →
    IsCutInto table text ts → ReadsExpression Primary ts e behind → begins_number ts ≡ false → IsTextOf table (ReadsLevel 8) text e behind
unfolding rule
primary {ts = ts} cut reads opens = record { tokens = ts; cut = cut; reads = record { reads = ReadsExpression.OnePrimary reads; opens = λ high. opens } }

-- the word of a type
type_word : (t : Ty) → (w : Word) × (type_text t ≡ word_text w) × (type_of w ≡ Some t)
type_word T.Int = (W.IntType, refl, refl)
type_word T.Bool = (W.BoolType, refl, refl)
type_word T.Agent = (W.AgentType, refl, refl)
type_word T.Kind = (W.KindType, refl, refl)
type_word T.Resource = (W.ResourceType, refl, refl)
type_word T.Day = (W.DayType, refl, refl)

module _ (table : Table) (all : IsTable table) where
  writes_resource : (z : ℤ) (x : Name) → IsTrue (is_whole z) → x.id < length table →
      Writes table (ReadsLevel 8) (value_text table (V.Resource (record { amount = z; kind = x }))) (Literal (V.Resource (record { amount = z; kind = x })))
  writes_resource (pos n) x whole can = λ rest behind cut end. simp append_assoc (primary
      (cut_sign S.LeftBracket refl (cut_number n (grind (arith, ints)) (cut_space (cut_name x all can (cut_sign S.RightBracket refl cut) refl)) refl))
      ReadsExpression.Resource refl)
  writes_resource (negsuc n) x whole can = λ rest behind cut end. simp append_assoc (primary
      (cut_sign S.LeftBracket refl (cut_sign S.Minus refl (cut_number (suc n) (grind (arith, ints)) (cut_space (cut_name x all can (cut_sign S.RightBracket refl cut) refl)) refl)))
      ReadsExpression.NegativeResource refl)

  writes_value : (v : Value) → IsWholeValue v → HasLiteral table v → Writes table (ReadsLevel (grade (Literal v))) (value_text table v) (Literal v)
  unfolding rule grade
  writes_value (V.Int (pos n)) whole can = λ rest behind cut end.
      record { tokens = _; cut = cut_number n (grind (arith, ints)) cut end; reads = record { reads = ReadsExpression.OnePrimary ReadsExpression.Number; opens = λ high. absurd (omega arith) } }
  writes_value (V.Int (negsuc n)) whole can = λ rest behind cut end.
      record { tokens = _; cut = cut_sign S.Minus refl (cut_number (suc n) (grind (arith, ints)) cut end); reads = record { reads = ReadsExpression.NegativeNumber; opens = λ high. refl } }
  writes_value (V.Bool true) whole can = λ rest behind cut end. primary (cut_word W.True cut end) ReadsExpression.True refl
  writes_value (V.Bool false) whole can = λ rest behind cut end. primary (cut_word W.False cut end) ReadsExpression.False refl
  writes_value (V.Agent x) whole can = absurd can
  writes_value (V.Kind x) whole can = absurd can
  writes_value (V.Day d) whole can = λ rest behind cut end. primary (cut_day (day_text d) d (IsDayText-day_text d (grind (arith, ints), grind (arith, ints))) cut) ReadsExpression.ADay refl
  writes_value (V.Resource r) whole can = writes_resource r.amount r.kind whole can

  -- a part, with brackets where the level wants them
  part : (e : Expression) (n : ℕ) (b : Bool) → n ≤ 8 → (b ≡ false → n ≤ grade e) → Writes table (ReadsLevel (grade e)) (expression_text table e) e →
      Writes table (ReadsLevel n) (bracketed b (expression_text table e)) e
  part e n b = writes_bracketed ReadsLevel 8 looser brackets table (grade e) n (expression_text table e) e b

  -- a part that stands alone
  alone : (e : Expression) → Writes table (ReadsLevel (grade e)) (expression_text table e) e → Writes table (ReadsExpression Disjunction) (expression_text table e) e
  unfolding rule
  alone e h rest behind cut end =
      let level = writes_looser ReadsLevel 8 looser brackets table (grade e) 0 (expression_text table e) e (omega arith) h rest behind cut end in
      record { tokens = level.tokens; cut = level.cut; reads = level.reads.reads }

  writes_level : (e : Expression) → IsWholeExpression e → CanWrite table e → Writes table (ReadsLevel (grade e)) (expression_text table e) e
  unfolding rule grade
  writes_level (Literal v) whole can = writes_value v whole can
  writes_level (Undefined t) whole can = λ rest behind cut end.
      let w = type_word t in
      rw w.1 (primary (cut_word W.Undefined (cut_space (cut_word w.0 cut end)) refl) (ReadsExpression.Undefined w.2) refl)
  writes_level (Named x) whole can = λ rest behind cut end. primary (cut_name x all can cut end) ReadsExpression.AName refl
  writes_level (Unary Minus a) whole can = λ rest behind cut end.
      let p = part a 8 (negated_in_brackets a) (omega arith) (negated_grade a) (writes_level a whole can) rest behind cut end in
      record { tokens = _; cut = cut_sign S.Minus refl p.cut; reads = record { reads = ReadsExpression.Minus (p.reads.opens (omega arith)) p.reads.reads; opens = λ high. refl } }
  writes_level (Unary Not a) whole can = λ rest behind cut end.
      let p = part a 3 (denied_in_brackets a) (omega arith) (λ no. level_grade a 3 (omega arith) (ltb-false _ _ no)) (writes_level a whole can) rest behind cut end in
      record { tokens = _; cut = cut_word W.Not (cut_space p.cut) refl; reads = record { reads = ReadsExpression.Not p.reads.reads; opens = λ high. absurd (omega arith) } }
  writes_level (Unary AmountOf a) whole can = λ rest behind cut end.
      let p = alone a (writes_level a whole can) _ _ (cut_sign S.RightParen refl cut) refl in
      simp append_assoc (primary (cut_word W.Amount (cut_sign S.LeftParen refl p.cut) refl) (ReadsExpression.AmountOf p.reads) refl)
  writes_level (Unary KindOf a) whole can = λ rest behind cut end.
      let p = alone a (writes_level a whole can) _ _ (cut_sign S.RightParen refl cut) refl in
      simp append_assoc (primary (cut_word W.Kind (cut_sign S.LeftParen refl p.cut) refl) (ReadsExpression.KindOf p.reads) refl)
  writes_level (Make a b) whole can = λ rest behind cut end.
      let q = alone b (writes_level b whole.1 can.1) _ _ (cut_sign S.RightParen refl cut) refl in
      let p = alone a (writes_level a whole.0 can.0) _ _ (cut_sign S.Comma refl (cut_space q.cut)) refl in
      simp append_assoc (primary (cut_word W.Res (cut_sign S.LeftParen refl p.cut) refl) (ReadsExpression.Make p.reads q.reads) refl)
  writes_level (Binary o a b) whole can = λ rest behind cut end.
      let right = part b (suc (op_level o)) (right_in_brackets o b) (omega (arith, op_low o)) (right_grade o b) (writes_level b whole.1 can.1) rest behind cut end in
      let between = operator o right.cut in
      let left = part a (left_level o) (left_in_brackets o a) (omega (arith, left_low o)) (left_grade o a) (writes_level a whole.0 can.0) _ _ between.2 refl in
      simp append_assoc (record {
        tokens = left.tokens;
        cut = left.cut;
        reads = record { reads = binary o between.1 left.reads.reads right.reads.reads; opens = λ high. absurd (omega (arith, op_low o)) };
      })
  writes_level (If a b c) whole can = λ rest behind cut end.
      let r = alone c (writes_level c whole.2 can.2) _ _ (cut_space (cut_word W.End cut end)) refl in
      let q = alone b (writes_level b whole.1 can.1) _ _ (cut_space (cut_word W.Else (cut_space r.cut) refl)) refl in
      let p = alone a (writes_level a whole.0 can.0) _ _ (cut_space (cut_word W.Then (cut_space q.cut) refl)) refl in
      simp append_assoc (primary (cut_word W.If (cut_space p.cut) refl) (ReadsExpression.If p.reads q.reads r.reads) refl)

  -- the text of an expression is the expression
  pub writes_expression : (e : Expression) → IsWholeExpression e → CanWrite table e → Writes table (ReadsExpression Disjunction) (expression_text table e) e
  writes_expression e whole can = alone e (writes_level e whole can)
