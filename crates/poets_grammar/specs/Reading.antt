-- Expressions read by functions on lists: the one at the start of the tokens, as far as it can go
-- on, and the tokens after it; or the place of the first token that cannot stand where it does, or
-- of the end. Expressions.antt says what an expression is; that both agree is proved.
use Rattle.std.specs.Prelude.{ℕ, zero, suc, ◌+◌, nat_eq, Bool, true, false, if◌then◌else◌, List, []}
use Rattle.std.specs.Prelude.{◌∷◌, length}
use Rattle.std.specs.Prelude.{Option, Some, None, Result, Ok, Err, ℤ, pos, neg_ℤ}
use Rattle.poets_value.specs.declared.value.Name.{Name}
use Rattle.poets_value.specs.declared.value.Ty.{Ty}
use Rattle.poets_value.specs.declared.value.Resource.{Resource}
use Rattle.poets_value.specs.declared.value.Value.TheVariants as V
use Rattle.poets_expr.specs.declared.expr.Op.{Op}
use Rattle.poets_expr.specs.Expression.{UnaryOp, Minus, Not, AmountOf, KindOf, Expression, Literal}
use Rattle.poets_expr.specs.Expression.{Undefined, Named}
use Rattle.poets_expr.specs.Expression.{Unary, Make, Binary, If}
use Rattle.poets_lex.specs.declared.token.Word.{Word}
use Rattle.poets_lex.specs.declared.token.Word.TheVariants as W
use Rattle.poets_lex.specs.declared.token.Sign.{Sign}
use Rattle.poets_lex.specs.declared.token.Sign.TheVariants as S
use Rattle.poets_lex.specs.declared.token.Tok.{Tok}
use Rattle.poets_lex.specs.declared.token.Tok.TheVariants as K
use Rattle.poets_lex.specs.contracts.token.SignPartialEq.TheImpl as sign_eq
use Rattle.poets_lex.specs.contracts.token.WordPartialEq.TheImpl as word_eq
use Rattle.poets_grammar.specs.Tokens.{infix_operator, type_of}

-- what the tokens say, or how many are left from the first one on that cannot stand where it does,
-- 0 where more have to follow them all
abbrev pub Answer : Type 0 → Type 0
Answer A = Result A ℕ

-- what is read from the start of the tokens, and the tokens after it
abbrev pub Reading : Type 0 → Type 0
Reading A = Answer (A × List Tok)

-- what joins operands, if it stands at the start of the tokens, and the tokens after it
abbrev pub Link : Type 0 → Type 0
Link J = Option (J × List Tok)

abbrev pub Reader : Type 0
Reader = List Tok → Reading Expression

infixl 10 ◌>>=◌
abbrev pub ◌>>=◌ : {A B : Type 0} → Answer A → (A → Answer B) → Answer B
(Ok x) >>= f = f x
(Err left) >>= f = Err left

-- the first of these tokens cannot stand where it does, or more of them have to follow
abbrev pub refused : {A : Type 0} → List Tok → Answer A
refused ts = Err (length ts)

-- the token ahead of these cannot stand where it does
abbrev pub refused_ahead : {A : Type 0} → List Tok → Answer A
refused_ahead ts = Err (suc (length ts))

-- what was found, which has to stand at the front of these tokens
abbrev pub needed : {A : Type 0} → List Tok → Option A → Answer A
needed ts (Some x) = Ok x
needed ts None = refused ts

-- ---- single tokens

abbrev pub same_sign : Sign → Sign → Bool
same_sign a b = (sign_eq.ghosts).eq a b

abbrev pub same_word : Word → Word → Bool
same_word a b = (word_eq.ghosts).eq a b

-- the tokens after the sign, if it comes first
abbrev pub behind_sign : Sign → List Tok → Option (List Tok)
behind_sign wanted (K.Sign found ∷ ts) = if same_sign found wanted then Some ts else None
behind_sign wanted _ = None

abbrev pub behind_word : Word → List Tok → Option (List Tok)
behind_word wanted (K.Word found ∷ ts) = if same_word found wanted then Some ts else None
behind_word wanted _ = None

-- what stands after the sign, which has to stand there
abbrev pub sign : Sign → List Tok → Answer (List Tok)
sign wanted ts = needed ts (behind_sign wanted ts)

abbrev pub word : Word → List Tok → Answer (List Tok)
word wanted ts = needed ts (behind_word wanted ts)

abbrev pub name : List Tok → Reading Name
name (K.Name x ∷ ts) = Ok (x, ts)
name ts = refused ts

-- a NUMBER, which is not below 0
abbrev pub number : List Tok → Reading ℤ
number (K.Number (pos n) ∷ ts) = Ok (pos n, ts)
number ts = refused ts

-- a type, where a token stands ahead of the tokens
abbrev pub with_type : Option Ty → List Tok → Reading Ty
with_type (Some t) ts = Ok (t, ts)
with_type None ts = refused_ahead ts

abbrev pub type_name : List Tok → Reading Ty
type_name (K.Word w ∷ ts) = with_type (type_of w) ts
type_name ts = refused ts

abbrev pub of_level : ℕ → Option (ℕ × Op) → List Tok → Link Op
of_level level (Some p) ts = if nat_eq p.0 level then Some (p.1, ts) else None
of_level level None ts = None

-- an operator of that level
abbrev pub operator : ℕ → List Tok → Link Op
operator level (t ∷ ts) = of_level level (infix_operator t) ts
operator level [] = None

-- what is read, if no token is left
abbrev pub whole : {A : Type 0} → A → List Tok → Answer A
whole x [] = Ok x
whole x (t ∷ ts) = refused (t ∷ ts)

-- ---- operands that links join

abbrev pub turn : {J A : Type 0} → (J → A → A → A) → (List Tok → Reading A) → (A → List Tok → Reading A) → A →
    List Tok → Link J → Reading A
turn join operand next left ts None = Ok (left, ts)
turn join operand next left ts (Some j) = operand j.1 >>= λ right. next (join j.0 left right.0) right.1

-- what is joined to the first operand: fewer operands than the number, each after a link
unfoldable pub more : {J A : Type 0} → (List Tok → Link J) → (J → A → A → A) → (List Tok → Reading A) → ℕ → A →
    List Tok → Reading A
more link join operand zero left ts = refused ts
more link join operand (suc turns) left ts = turn join operand (more link join operand turns) left ts (link ts)

-- operands with a link between them, grouped to the left
unfoldable pub joined : {J A : Type 0} → (List Tok → Link J) → (J → A → A → A) → (List Tok → Reading A) → List Tok →
    Reading A
joined link join operand ts = do
  left ← operand ts
  more link join operand (length left.1 + 1) left.0 left.1

-- ---- lists

abbrev pub others : {A : Type 0} → (List Tok → Reading (List A)) → A → List Tok → Option (List Tok) → Reading (List A)
others next x ts None = Ok (x ∷ [], ts)
others next x ts (Some behind) = next behind >>= λ xs. Ok (x ∷ xs.0, xs.1)

unfoldable pub listed_at : {A : Type 0} → (List Tok → Reading A) → ℕ → List Tok → Reading (List A)
listed_at item zero ts = refused ts
listed_at item (suc k) ts = item ts >>= λ x. others (listed_at item k) x.0 x.1 (behind_sign S.Comma x.1)

-- items with commas between them
unfoldable pub listed : {A : Type 0} → (List Tok → Reading A) → List Tok → Reading (List A)
listed item ts = listed_at item (suc (length ts)) ts

unfoldable pub some_listed : {A : Type 0} → (List Tok → Reading A) → List Tok → Reading (List A)
some_listed item ts = do
  xs ← listed item ts
  rest ← sign S.RightParen xs.1
  Ok (xs.0, rest)

abbrev pub none_or_some : {A : Type 0} → (List Tok → Reading A) → List Tok → Option (List Tok) → Reading (List A)
none_or_some item ts (Some rest) = Ok ([], rest)
none_or_some item ts None = some_listed item ts

-- "(" [ item { "," item } ] ")"
unfoldable pub bracketed : {A : Type 0} → (List Tok → Reading A) → List Tok → Reading (List A)
bracketed item ts = do
  inside ← sign S.LeftParen ts
  none_or_some item inside (behind_sign S.RightParen inside)

-- ---- the rules, over a reader of whole expressions

-- an expression and a `)`
unfoldable pub closed : Reader → Reader
closed expr ts = do
  e ← expr ts
  rest ← sign S.RightParen e.1
  Ok (e.0, rest)

-- an expression in brackets, under an operator
unfoldable pub applied : UnaryOp → Reader → Reader
applied o expr ts = do
  inside ← sign S.LeftParen ts
  e ← closed expr inside
  Ok (Unary o e.0, e.1)

-- after the word `res`
unfoldable pub made : Reader → Reader
made expr ts = do
  from_amount ← sign S.LeftParen ts
  a ← expr from_amount
  from_kind ← sign S.Comma a.1
  b ← closed expr from_kind
  Ok (Make a.0 b.0, b.1)

-- after the word `if`
unfoldable pub conditional : Reader → Reader
conditional expr ts = do
  a ← expr ts
  from_then ← word W.Then a.1
  b ← expr from_then
  from_else ← word W.Else b.1
  c ← expr from_else
  rest ← word W.End c.1
  Ok (If a.0 b.0 c.0, rest)

-- NUMBER NAME "]"
unfoldable pub amount : List Tok → Reading Resource
amount ts = do
  n ← number ts
  x ← name n.1
  rest ← sign S.RightBracket x.1
  Ok (record { amount = n.0; kind = x.0 }, rest)

unfoldable pub credit : Reader
credit ts = do
  r ← amount ts
  Ok (Literal (V.Resource r.0), r.1)

unfoldable pub debt : Reader
debt ts = do
  r ← amount ts
  Ok (Literal (V.Resource (record { amount = neg_ℤ r.0.amount; kind = r.0.kind })), r.1)

-- after the `[`
unfoldable pub resource : Reader
resource (K.Sign S.Minus ∷ ts) = debt ts
resource ts = credit ts

-- after the word `undefined`
unfoldable pub undefined_of : Reader
undefined_of ts = do
  t ← type_name ts
  Ok (Undefined t.0, t.1)

-- by the word that stands ahead of the tokens
abbrev pub primary_word : Reader → Word → Reader
primary_word expr W.True ts = Ok (Literal (V.Bool true), ts)
primary_word expr W.False ts = Ok (Literal (V.Bool false), ts)
primary_word expr W.Undefined ts = undefined_of ts
primary_word expr W.Amount ts = applied AmountOf expr ts
primary_word expr W.Kind ts = applied KindOf expr ts
primary_word expr W.Res ts = made expr ts
primary_word expr W.If ts = conditional expr ts
primary_word expr _ ts = refused_ahead ts

unfoldable pub literal : Reader
literal ts = do
  n ← number ts
  Ok (Literal (V.Int n.0), n.1)

abbrev pub day_literal : Reader
day_literal (K.Day d ∷ ts) = Ok (Literal (V.Day d), ts)
day_literal ts = refused ts

unfoldable pub primary : Reader → Reader
primary expr [] = refused []
primary expr (K.Number n ∷ ts) = literal (K.Number n ∷ ts)
primary expr (K.Day d ∷ ts) = day_literal (K.Day d ∷ ts)
primary expr (K.Name x ∷ ts) = Ok (Named x, ts)
primary expr (K.Word w ∷ ts) = primary_word expr w ts
primary expr (K.Sign S.LeftBracket ∷ ts) = resource ts
primary expr (K.Sign S.LeftParen ∷ ts) = closed expr ts
primary expr (K.Sign s ∷ ts) = refused (K.Sign s ∷ ts)

-- what is read, under an operator
abbrev pub under : UnaryOp → Reading Expression → Reading Expression
under o r = r >>= λ e. Ok (Unary o e.0, e.1)

-- after a `-`
unfoldable pub negative : Reader
negative ts = do
  n ← number ts
  Ok (Literal (V.Int (neg_ℤ n.0)), n.1)

-- the tokens after a `-`, and what is read of them as an operand of it
abbrev pub behind_minus : List Tok → Reading Expression → Reading Expression
behind_minus (K.Number n ∷ ts) operand = negative (K.Number n ∷ ts)
behind_minus ts operand = under Minus operand

unfoldable pub prefixed : Reader → Reader
prefixed expr (K.Sign S.Minus ∷ ts) = behind_minus ts (prefixed expr ts)
prefixed expr ts = primary expr ts

unfoldable pub product : Reader → Reader
product expr ts = joined (operator 6) Binary (prefixed expr) ts

unfoldable pub sum : Reader → Reader
sum expr ts = joined (operator 5) Binary (product expr) ts

-- comparisons do not chain
abbrev pub unless_compared : Expression → List Tok → Link Op → Reading Expression
unless_compared e ts None = Ok (e, ts)
unless_compared e ts (Some o) = refused ts

abbrev pub compared : Reader → Expression → List Tok → Link Op → Reading Expression
compared operand a ts None = Ok (a, ts)
compared operand a ts (Some o) = operand o.1 >>= λ b. unless_compared (Binary o.0 a b.0) b.1 (operator 4 b.1)

unfoldable pub comparison : Reader → Reader
comparison expr ts = do
  a ← sum expr ts
  compared (sum expr) a.0 a.1 (operator 4 a.1)

unfoldable pub negation : Reader → Reader
negation expr (K.Word W.Not ∷ ts) = under Not (negation expr ts)
negation expr ts = comparison expr ts

unfoldable pub conjunction : Reader → Reader
conjunction expr ts = joined (operator 2) Binary (negation expr) ts

unfoldable pub disjunction : Reader → Reader
disjunction expr ts = joined (operator 1) Binary (conjunction expr) ts

-- ---- whole expressions

-- nested less deeply than the number; one more than the count of the tokens is always enough
unfoldable pub expression_at : ℕ → Reader
expression_at zero ts = refused ts
expression_at (suc n) ts = disjunction (expression_at n) ts

unfoldable pub expression : Reader
expression ts = expression_at (suc (length ts)) ts

-- the expression that all the tokens are
unfoldable pub whole_expression : List Tok → Answer Expression
whole_expression ts = do
  e ← expression ts
  whole e.0 e.1

-- "(" [ expression { "," expression } ] ")"
unfoldable pub arguments : List Tok → Reading (List Expression)
arguments ts = bracketed expression ts
