-- The grammar of expressions. `ReadsExpression rule ts e rest` says that the tokens ts are what the
-- rule says, with the tree e, and then the tokens rest.
use Rattle.std.specs.Prelude.{◌≡◌, ℕ, List, [], ◌∷◌, Some, Bool, true, false, ℤ, pos, neg_ℤ}
use Rattle.poets_value.specs.declared.value.Name.{Name}
use Rattle.poets_value.specs.declared.value.Ty.{Ty}
use Rattle.poets_value.specs.declared.value.Value.TheVariants as V
use Rattle.poets_expr.specs.declared.expr.Op.{Op}
use Rattle.poets_expr.specs.Expression as E
use Rattle.poets_expr.specs.Expression.{Expression}
use Rattle.poets_lex.specs.declared.token.Word.{Word}
use Rattle.poets_lex.specs.declared.token.Word.TheVariants as W
use Rattle.poets_lex.specs.declared.token.Sign.TheVariants as S
use Rattle.poets_lex.specs.declared.token.Tok.{Tok}
use Rattle.poets_lex.specs.declared.token.Tok.TheVariants as K
use Rattle.poets_grammar.specs.Tokens.{infix_operator, type_of}
use Rattle.poets_grammar.specs.Lists.{ReadsBracketed}

-- the rules; a whole expression is a disjunction
pub data Rule : Type 0 where
  Disjunction : Rule
  Conjunction : Rule
  Negation : Rule
  Comparison : Rule
  Sum : Rule
  Product : Rule
  Prefixed : Rule
  Primary : Rule

abbrev pub begins_number : List Tok → Bool
begins_number (K.Number n ∷ ts) = true
begins_number _ = false

-- operators of one level group to the left, and brackets leave no trace in the tree
pub data ReadsExpression : Rule → List Tok → Expression → List Tok → Type 0 where
  -- disjunction = conjunction { "or" conjunction }
  OneConjunction : {ts rest : List Tok} {e : Expression} → ReadsExpression Conjunction ts e rest →
      ReadsExpression Disjunction ts e rest
  MoreConjunctions :
      {ts mid rest : List Tok} {a b : Expression} {t : Tok} {o : Op} →
      infix_operator t ≡ Some (1, o) → ReadsExpression Disjunction ts a (t ∷ mid) →
      ReadsExpression Conjunction mid b rest →
      ReadsExpression Disjunction ts (E.Binary o a b) rest
  -- conjunction = negation { "and" negation }
  OneNegation : {ts rest : List Tok} {e : Expression} → ReadsExpression Negation ts e rest →
      ReadsExpression Conjunction ts e rest
  MoreNegations :
      {ts mid rest : List Tok} {a b : Expression} {t : Tok} {o : Op} →
      infix_operator t ≡ Some (2, o) → ReadsExpression Conjunction ts a (t ∷ mid) →
      ReadsExpression Negation mid b rest →
      ReadsExpression Conjunction ts (E.Binary o a b) rest
  -- negation = "not" negation | comparison
  Not :
      {ts rest : List Tok} {e : Expression} →
      ReadsExpression Negation ts e rest → ReadsExpression Negation (K.Word W.Not ∷ ts) (E.Unary E.Not e) rest
  OneComparison : {ts rest : List Tok} {e : Expression} → ReadsExpression Comparison ts e rest →
      ReadsExpression Negation ts e rest
  -- comparison = sum [ ( "=" | "<>" | "<" | "<=" | ">" | ">=" ) sum ]
  OneSum : {ts rest : List Tok} {e : Expression} → ReadsExpression Sum ts e rest → ReadsExpression Comparison ts e rest
  TwoSums :
      {ts mid rest : List Tok} {a b : Expression} {t : Tok} {o : Op} →
      infix_operator t ≡ Some (4, o) → ReadsExpression Sum ts a (t ∷ mid) → ReadsExpression Sum mid b rest →
      ReadsExpression Comparison ts (E.Binary o a b) rest
  -- sum = product { ( "+" | "-" ) product }
  OneProduct : {ts rest : List Tok} {e : Expression} → ReadsExpression Product ts e rest → ReadsExpression Sum ts e rest
  MoreProducts :
      {ts mid rest : List Tok} {a b : Expression} {t : Tok} {o : Op} →
      infix_operator t ≡ Some (5, o) → ReadsExpression Sum ts a (t ∷ mid) → ReadsExpression Product mid b rest →
      ReadsExpression Sum ts (E.Binary o a b) rest
  -- product = prefixed { ( "*" | "/" | "%" ) prefixed }
  OnePrefixed : {ts rest : List Tok} {e : Expression} → ReadsExpression Prefixed ts e rest →
      ReadsExpression Product ts e rest
  MorePrefixed :
      {ts mid rest : List Tok} {a b : Expression} {t : Tok} {o : Op} →
      infix_operator t ≡ Some (6, o) → ReadsExpression Product ts a (t ∷ mid) → ReadsExpression Prefixed mid b rest →
      ReadsExpression Product ts (E.Binary o a b) rest
  -- prefixed = "-" NUMBER | "-" prefixed | primary, where a "-" directly before a NUMBER is the
  -- first
  NegativeNumber :
      {n : ℕ} {rest : List Tok} →
      ReadsExpression Prefixed (K.Sign S.Minus ∷ K.Number (pos n) ∷ rest) (E.Literal (V.Int (neg_ℤ (pos n)))) rest
  Minus :
      {ts rest : List Tok} {e : Expression} →
      begins_number ts ≡ false → ReadsExpression Prefixed ts e rest →
      ReadsExpression Prefixed (K.Sign S.Minus ∷ ts) (E.Unary E.Minus e) rest
  OnePrimary : {ts rest : List Tok} {e : Expression} → ReadsExpression Primary ts e rest →
      ReadsExpression Prefixed ts e rest
  -- primary = NUMBER | DAY | "true" | "false" | NAME | "undefined" type
  Number : {n : ℕ} {rest : List Tok} →
      ReadsExpression Primary (K.Number (pos n) ∷ rest) (E.Literal (V.Int (pos n))) rest
  ADay : {d : ℤ} {rest : List Tok} → ReadsExpression Primary (K.Day d ∷ rest) (E.Literal (V.Day d)) rest
  True : {rest : List Tok} → ReadsExpression Primary (K.Word W.True ∷ rest) (E.Literal (V.Bool true)) rest
  False : {rest : List Tok} → ReadsExpression Primary (K.Word W.False ∷ rest) (E.Literal (V.Bool false)) rest
  AName : {x : Name} {rest : List Tok} → ReadsExpression Primary (K.Name x ∷ rest) (E.Named x) rest
  Undefined :
      {w : Word} {t : Ty} {rest : List Tok} →
      type_of w ≡ Some t → ReadsExpression Primary (K.Word W.Undefined ∷ K.Word w ∷ rest) (E.Undefined t) rest
  -- | "[" NUMBER NAME "]" | "[" "-" NUMBER NAME "]"
  Resource :
      {n : ℕ} {x : Name} {rest : List Tok} →
      ReadsExpression Primary (K.Sign S.LeftBracket ∷ K.Number (pos n) ∷ K.Name x ∷ K.Sign S.RightBracket ∷ rest)
      (E.Literal (V.Resource (record { amount = pos n; kind = x }))) rest
  NegativeResource :
      {n : ℕ} {x : Name} {rest : List Tok} →
      ReadsExpression Primary
      (K.Sign S.LeftBracket ∷ K.Sign S.Minus ∷ K.Number (pos n) ∷ K.Name x ∷ K.Sign S.RightBracket ∷ rest)
      (E.Literal (V.Resource (record { amount = neg_ℤ (pos n); kind = x }))) rest
  -- | "amount" "(" disjunction ")" | "kind" "(" disjunction ")" | "res" "(" disjunction ","
  -- disjunction ")"
  AmountOf :
      {ts rest : List Tok} {e : Expression} →
      ReadsExpression Disjunction ts e (K.Sign S.RightParen ∷ rest) →
      ReadsExpression Primary (K.Word W.Amount ∷ K.Sign S.LeftParen ∷ ts) (E.Unary E.AmountOf e) rest
  KindOf :
      {ts rest : List Tok} {e : Expression} →
      ReadsExpression Disjunction ts e (K.Sign S.RightParen ∷ rest) →
      ReadsExpression Primary (K.Word W.Kind ∷ K.Sign S.LeftParen ∷ ts) (E.Unary E.KindOf e) rest
  Make :
      {ts mid rest : List Tok} {a b : Expression} →
      ReadsExpression Disjunction ts a (K.Sign S.Comma ∷ mid) →
      ReadsExpression Disjunction mid b (K.Sign S.RightParen ∷ rest) →
      ReadsExpression Primary (K.Word W.Res ∷ K.Sign S.LeftParen ∷ ts) (E.Make a b) rest
  -- | "if" disjunction "then" disjunction "else" disjunction "end" | "(" disjunction ")"
  If :
      {ts mid more rest : List Tok} {a b c : Expression} →
      ReadsExpression Disjunction ts a (K.Word W.Then ∷ mid) →
      ReadsExpression Disjunction mid b (K.Word W.Else ∷ more) →
      ReadsExpression Disjunction more c (K.Word W.End ∷ rest) →
      ReadsExpression Primary (K.Word W.If ∷ ts) (E.If a b c) rest
  Brackets :
      {ts rest : List Tok} {e : Expression} →
      ReadsExpression Disjunction ts e (K.Sign S.RightParen ∷ rest) →
      ReadsExpression Primary (K.Sign S.LeftParen ∷ ts) e rest

-- the tokens are an expression with this tree
abbrev pub IsExpression : List Tok → Expression → Type 0
IsExpression ts e = ReadsExpression Disjunction ts e []

-- "(" [ expression { "," expression } ] ")"
abbrev pub ReadsArguments : List Tok → List Expression → List Tok → Type 0
ReadsArguments ts args rest = ReadsBracketed (ReadsExpression Disjunction) ts args rest
