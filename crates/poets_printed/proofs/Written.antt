-- The tokens of a printed expression, and how many brackets are open in them.
use Rattle.std.proofs.Common.{ℕ, suc, ◌+◌, ◌≤◌, Bool, true, false, List, ◌∷◌, arith, ℤ, pos, negsuc}
use Rattle.poets_value.specs.declared.value.Ty.{Ty}
use Rattle.poets_value.specs.declared.value.Ty.TheVariants as T
use Rattle.poets_value.specs.declared.value.Value.{Value}
use Rattle.poets_value.specs.declared.value.Value.TheVariants as V
use Rattle.poets_expr.specs.declared.expr.Op.{Op}
use Rattle.poets_expr.specs.declared.expr.Op.TheVariants as O
use Rattle.poets_expr.specs.Expression.{Expression, Minus, Not, AmountOf, KindOf, Literal, Undefined, Named, Unary}
use Rattle.poets_expr.specs.Expression.{Make, Binary, If}
use Rattle.poets_lex.specs.declared.token.Word.{Word}
use Rattle.poets_lex.specs.declared.token.Word.TheVariants as W
use Rattle.poets_lex.specs.declared.token.Sign.TheVariants as S
use Rattle.poets_lex.specs.declared.token.Tok.{Tok}
use Rattle.poets_lex.specs.declared.token.Tok.TheVariants as K
use Rattle.poets_print.specs.Levels.{left_in_brackets, right_in_brackets, negated_in_brackets, denied_in_brackets}
use Rattle.poets_printed.proofs.Measures.{Fits, deeper, depth}

-- a whole number, ahead of the others
abbrev pub written_number : ℤ → List Tok → List Tok
written_number (pos n) ts = K.Number (pos n) ∷ ts
written_number (negsuc n) ts = K.Sign S.Minus ∷ K.Number (pos (suc n)) ∷ ts

-- a value, ahead of the others
abbrev pub written_value : Value → List Tok → List Tok
written_value (V.Int z) ts = written_number z ts
written_value (V.Bool true) ts = K.Word W.True ∷ ts
written_value (V.Bool false) ts = K.Word W.False ∷ ts
written_value (V.Agent x) ts = K.Name x ∷ ts
written_value (V.Kind x) ts = K.Name x ∷ ts
written_value (V.Day d) ts = K.Day d ∷ ts
written_value (V.Resource r) ts =
    K.Sign S.LeftBracket ∷ written_number r.amount (K.Name r.kind ∷ K.Sign S.RightBracket ∷ ts)

-- the word of a type
abbrev pub type_word : Ty → Word
type_word T.Int = W.IntType
type_word T.Bool = W.BoolType
type_word T.Agent = W.AgentType
type_word T.Kind = W.KindType
type_word T.Resource = W.ResourceType
type_word T.Day = W.DayType

-- the token of an operator
abbrev pub operator_token : Op → Tok
operator_token O.Add = K.Sign S.Plus
operator_token O.Sub = K.Sign S.Minus
operator_token O.Mul = K.Sign S.Star
operator_token O.Div = K.Sign S.Slash
operator_token O.Rem = K.Sign S.Percent
operator_token O.Eq = K.Sign S.Equal
operator_token O.Ne = K.Sign S.NotEqual
operator_token O.Lt = K.Sign S.Less
operator_token O.Le = K.Sign S.LessEqual
operator_token O.Gt = K.Sign S.Greater
operator_token O.Ge = K.Sign S.GreaterEqual
operator_token O.And = K.Word W.And
operator_token O.Or = K.Word W.Or

-- in brackets, or not
abbrev pub closed : Bool → (List Tok → List Tok) → List Tok → List Tok
closed true f ts = K.Sign S.LeftParen ∷ f (K.Sign S.RightParen ∷ ts)
closed false f ts = f ts

-- the tokens of the printed expression, ahead of the others
abbrev pub written : Expression → List Tok → List Tok
written (Literal v) ts = written_value v ts
written (Undefined t) ts = K.Word W.Undefined ∷ K.Word (type_word t) ∷ ts
written (Named x) ts = K.Name x ∷ ts
written (Unary Minus a) ts = K.Sign S.Minus ∷ closed (negated_in_brackets a) (written a) ts
written (Unary Not a) ts = K.Word W.Not ∷ closed (denied_in_brackets a) (written a) ts
written (Unary AmountOf a) ts = K.Word W.Amount ∷ K.Sign S.LeftParen ∷ written a (K.Sign S.RightParen ∷ ts)
written (Unary KindOf a) ts = K.Word W.Kind ∷ K.Sign S.LeftParen ∷ written a (K.Sign S.RightParen ∷ ts)
written (Make a b) ts =
    K.Word W.Res ∷ K.Sign S.LeftParen ∷ written a (K.Sign S.Comma ∷ written b (K.Sign S.RightParen ∷ ts))
written (Binary o a b) ts =
    closed (left_in_brackets o a) (written a) (operator_token o ∷ closed (right_in_brackets o b) (written b) ts)
written (If a b c) ts =
    K.Word W.If ∷ written a (K.Word W.Then ∷ written b (K.Word W.Else ∷ written c (K.Word W.End ∷ ts)))

-- tokens that open d brackets at one place fit where there is room for d
abbrev pub FitsAhead : ℕ → (List Tok → List Tok) → Type 0
FitsAhead d f = (most n : ℕ) (ts : List Tok) → n + d ≤ most → Fits most n ts → Fits most n (f ts)

fits_number : (z : ℤ) → FitsAhead 0 (written_number z)
fits_number (pos m) most n ts room h = (omega arith, h)
fits_number (negsuc m) most n ts room h = (omega arith, (omega arith, h))

fits_value : (v : Value) → FitsAhead 0 (written_value v)
fits_value (V.Int z) most n ts room h = fits_number z most n ts room h
fits_value (V.Bool true) most n ts room h = (omega arith, h)
fits_value (V.Bool false) most n ts room h = (omega arith, h)
fits_value (V.Agent x) most n ts room h = (omega arith, h)
fits_value (V.Kind x) most n ts room h = (omega arith, h)
fits_value (V.Day d) most n ts room h = (omega arith, h)
fits_value (V.Resource r) most n ts room h =
    (omega arith, fits_number r.amount most n _ room (omega arith, (omega arith, h)))

pub fits_closed :
    (b : Bool) (f : List Tok → List Tok) (d : ℕ) → FitsAhead d f → FitsAhead (deeper b d) (closed b f)
fits_closed true f d k most n ts room h = (omega arith, k most (suc n) _ (omega arith) (omega arith, h))
fits_closed false f d k most n ts room h = k most n ts room h

fits_operator :
    (o : Op) (most n : ℕ) (ts : List Tok) → n ≤ most → Fits most n ts → Fits most n (operator_token o ∷ ts)
fits_operator O.Add most n ts l h = (l, h)
fits_operator O.And most n ts l h = (l, h)
fits_operator O.Or most n ts l h = (l, h)
fits_operator o most n ts l h = (l, h)

pub fits_written : (e : Expression) → FitsAhead (depth e) (written e)
fits_written (Literal v) most n ts room h = fits_value v most n ts room h
fits_written (Undefined t) most n ts room h = (omega arith, (omega arith, h))
fits_written (Named x) most n ts room h = (omega arith, h)
fits_written (Unary Minus a) most n ts room h =
    (omega arith, fits_closed (negated_in_brackets a) (written a) (depth a) (fits_written a) most n ts room h)
fits_written (Unary Not a) most n ts room h =
    (omega arith, fits_closed (denied_in_brackets a) (written a) (depth a) (fits_written a) most n ts room h)
fits_written (Unary AmountOf a) most n ts room h =
    (omega arith, (omega arith, fits_written a most (suc n) _ (omega arith) (omega arith, h)))
fits_written (Unary KindOf a) most n ts room h =
    (omega arith, (omega arith, fits_written a most (suc n) _ (omega arith) (omega arith, h)))
fits_written (Make a b) most n ts room h =
    let q = fits_written b most (suc n) (K.Sign S.RightParen ∷ ts) (omega arith) (omega arith, h) in
    (omega arith, (omega arith, fits_written a most (suc n) _ (omega arith) (omega arith, q)))
fits_written (Binary o a b) most n ts room h =
    let q = fits_closed (right_in_brackets o b) (written b) (depth b) (fits_written b) most n ts (omega arith) h in
    let mid = fits_operator o most n _ (omega arith) q in
    fits_closed (left_in_brackets o a) (written a) (depth a) (fits_written a) most n _ (omega arith) mid
fits_written (If a b c) most n ts room h =
    let w = fits_written c most n (K.Word W.End ∷ ts) (omega arith) (omega arith, h) in
    let behind_b = K.Word W.Else ∷ written c (K.Word W.End ∷ ts) in
    let q = fits_written b most n behind_b (omega arith) (omega arith, w) in
    (omega arith, fits_written a most n (K.Word W.Then ∷ written b behind_b) (omega arith) (omega arith, q))

-- with the tokens named
pub fits_ahead :
    (d : ℕ) (f : List Tok → List Tok) → FitsAhead d f →
    (most n : ℕ) (ts : List Tok) → n + d ≤ most → Fits most n ts → Fits most n (f ts)
fits_ahead d f h = h
