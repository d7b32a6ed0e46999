-- The tokens of a printed contract, how many brackets are open in them, and how many operators they have.
use Rattle.std.proofs.Common.{◌≡◌, ℕ, suc, ◌+◌, ◌≤◌, Bool, true, false, List, [], ◌∷◌, refl, arith, ℤ, pos, negsuc}
use Rattle.std.specs.Prelude.{nat_lt, nat_le}
use Rattle.poets_value.specs.declared.value.Name.{Name}
use Rattle.poets_value.specs.declared.value.Ty.{Ty}
use Rattle.poets_value.specs.declared.value.Ty.TheVariants as T
use Rattle.poets_value.specs.declared.value.Value.{Value}
use Rattle.poets_value.specs.declared.value.Value.TheVariants as V
use Rattle.poets_expr.specs.declared.expr.Op.{Op}
use Rattle.poets_expr.specs.declared.expr.Op.TheVariants as O
use Rattle.poets_expr.specs.Expression.{Expression, Minus, Not, AmountOf, KindOf, Literal, Undefined, Named, Unary}
use Rattle.poets_expr.specs.Expression.{Make, Binary, If}
use Rattle.poets_syntax.specs.Contract as C
use Rattle.poets_syntax.specs.Contract.{Contract}
use Rattle.poets_lex.specs.declared.token.Word.TheVariants as W
use Rattle.poets_lex.specs.declared.token.Sign.TheVariants as S
use Rattle.poets_lex.specs.declared.token.Tok.{Tok}
use Rattle.poets_lex.specs.declared.token.Tok.TheVariants as K
use Rattle.poets_print.specs.Levels.{left_in_brackets, right_in_brackets, negated_in_brackets, denied_in_brackets}
use Rattle.poets_print.specs.Levels.{contract_level}
use Rattle.poets_printed.proofs.Measures.{deeper, depth_of_all, contract_depth, marked, sign_count, value_operators}
use Rattle.poets_printed.proofs.Measures.{written_operators, operators_of_all, contract_operators}
use Rattle.poets_printed.proofs.Written.{written, written_value, written_number, type_word, operator_token, closed}
use Rattle.poets_printed.proofs.Written.{FitsAhead, fits_closed, fits_written}

-- further expressions after commas, ahead of the others
abbrev pub written_after : List Expression → List Tok → List Tok
written_after [] ts = ts
written_after (e ∷ es) ts = K.Sign S.Comma ∷ written e (written_after es ts)

-- expressions with commas between them, ahead of the others
abbrev pub written_listed : List Expression → List Tok → List Tok
written_listed [] ts = ts
written_listed (e ∷ es) ts = written e (written_after es ts)

-- a name and its arguments, ahead of the others
abbrev pub written_call : Name → List Expression → List Tok → List Tok
written_call f args ts = K.Name f ∷ K.Sign S.LeftParen ∷ written_listed args (K.Sign S.RightParen ∷ ts)

-- the tokens of the printed contract, ahead of the others
abbrev pub written_contract : Contract → List Tok → List Tok
written_contract C.Success ts = K.Word W.Success ∷ ts
written_contract C.Failure ts = K.Word W.Failure ∷ ts
written_contract (C.Transmit b p c) ts =
    K.Word W.Transmit ∷ K.Sign S.LeftParen ∷ K.Name b.sender ∷ K.Sign S.Comma ∷ K.Name b.receiver ∷ K.Sign S.Comma
    ∷ K.Name b.what ∷ K.Sign S.Comma ∷ K.Name b.day ∷ K.Sign S.Bar
    ∷ written p (K.Sign S.RightParen ∷ K.Sign S.Dot ∷ closed (nat_lt (contract_level c) 4) (written_contract c) ts)
written_contract (C.Plus a b) ts =
    closed (nat_lt (contract_level a) 1) (written_contract a)
    (K.Sign S.Plus ∷ closed (nat_le (contract_level b) 1) (written_contract b) ts)
written_contract (C.Par a b) ts =
    closed (nat_lt (contract_level a) 2) (written_contract a)
    (K.Sign S.DoubleBar ∷ closed (nat_le (contract_level b) 2) (written_contract b) ts)
written_contract (C.Seq a b) ts =
    closed (nat_lt (contract_level a) 3) (written_contract a)
    (K.Sign S.Semicolon ∷ closed (nat_le (contract_level b) 3) (written_contract b) ts)
written_contract (C.App f args) ts = written_call f args ts

-- ---- brackets

fits_after : (es : List Expression) → FitsAhead (depth_of_all es) (written_after es)
fits_after [] most n ts room h = h
fits_after (e ∷ es) most n ts room h =
    (omega arith, fits_written e most n _ (omega arith) (fits_after es most n ts (omega arith) h))

fits_listed : (es : List Expression) → FitsAhead (depth_of_all es) (written_listed es)
fits_listed [] most n ts room h = h
fits_listed (e ∷ es) most n ts room h =
    fits_written e most n _ (omega arith) (fits_after es most n ts (omega arith) h)

pub fits_call : (f : Name) (es : List Expression) → FitsAhead (suc (depth_of_all es)) (written_call f es)
fits_call f es most n ts room h =
    (omega arith, (omega arith, fits_listed es most (suc n) _ (omega arith) (omega arith, h)))

-- a part in brackets or not
fits_part :
    (b : Bool) (c : Contract) → FitsAhead (contract_depth c) (written_contract c) →
    FitsAhead (deeper b (contract_depth c)) (closed b (written_contract c))
fits_part b c = fits_closed b (written_contract c) (contract_depth c)

pub fits_contract : (c : Contract) → FitsAhead (contract_depth c) (written_contract c)
fits_contract C.Success most n ts room h = (omega arith, h)
fits_contract C.Failure most n ts room h = (omega arith, h)
fits_contract (C.Transmit b p c) most n ts room h =
    let l : n ≤ most = omega arith in
    let i : suc n ≤ most = omega arith in
    let after = fits_part (nat_lt (contract_level c) 4) c (fits_contract c) most n ts (omega arith) h in
    let inner = fits_written p most (suc n) _ (omega arith) (i, (l, after)) in
    (l, (l, (i, (i, (i, (i, (i, (i, (i, (i, inner))))))))))
fits_contract (C.Plus a b) most n ts room h =
    let l : n ≤ most = omega arith in
    let q = fits_part (nat_le (contract_level b) 1) b (fits_contract b) most n ts (omega arith) h in
    fits_part (nat_lt (contract_level a) 1) a (fits_contract a) most n _ (omega arith) (l, q)
fits_contract (C.Par a b) most n ts room h =
    let l : n ≤ most = omega arith in
    let q = fits_part (nat_le (contract_level b) 2) b (fits_contract b) most n ts (omega arith) h in
    fits_part (nat_lt (contract_level a) 2) a (fits_contract a) most n _ (omega arith) (l, q)
fits_contract (C.Seq a b) most n ts room h =
    let l : n ≤ most = omega arith in
    let q = fits_part (nat_le (contract_level b) 3) b (fits_contract b) most n ts (omega arith) h in
    fits_part (nat_lt (contract_level a) 3) a (fits_contract a) most n _ (omega arith) (l, q)
fits_contract (C.App f args) most n ts room h = fits_call f args most n ts room h

-- ---- operators

-- the tokens have this many operators ahead of the others
CountsAhead : ℕ → (List Tok → List Tok) → Type 0
CountsAhead k f = (ts : List Tok) → marked (f ts) ≡ k + marked ts

count_number : (z : ℤ) → CountsAhead (sign_count z) (written_number z)
unfolding CountsAhead
count_number (pos m) ts = omega arith
count_number (negsuc m) ts = omega arith

count_value : (v : Value) → CountsAhead (value_operators v) (written_value v)
unfolding CountsAhead
count_value (V.Int z) ts = count_number z ts
count_value (V.Bool true) ts = omega arith
count_value (V.Bool false) ts = omega arith
count_value (V.Agent x) ts = omega arith
count_value (V.Kind x) ts = omega arith
count_value (V.Day d) ts = omega arith
count_value (V.Resource r) ts =
    omega (arith, count_number r.amount (K.Name r.kind ∷ K.Sign S.RightBracket ∷ ts))

count_closed : (b : Bool) (f : List Tok → List Tok) (k : ℕ) → CountsAhead k f → CountsAhead k (closed b f)
unfolding CountsAhead
count_closed true f k h ts = omega (arith, h (K.Sign S.RightParen ∷ ts))
count_closed false f k h ts = h ts

count_operator : (o : Op) (ts : List Tok) → marked (operator_token o ∷ ts) ≡ suc (marked ts)
count_operator O.Add ts = omega arith
count_operator O.And ts = omega arith
count_operator O.Or ts = omega arith
count_operator o ts = omega arith

count_type : (t : Ty) (ts : List Tok) → marked (K.Word (type_word t) ∷ ts) ≡ marked ts
count_type T.Int ts = refl
count_type T.Bool ts = refl
count_type T.Agent ts = refl
count_type T.Kind ts = refl
count_type T.Resource ts = refl
count_type T.Day ts = refl

count_written : (e : Expression) → CountsAhead (written_operators e) (written e)
unfolding CountsAhead
count_written (Literal v) ts = count_value v ts
count_written (Undefined t) ts =
    let h : marked (K.Word W.Undefined ∷ K.Word (type_word t) ∷ ts) ≡ marked ts = count_type t ts in
    omega (arith, h)
count_written (Named x) ts = omega arith
count_written (Unary Minus a) ts =
    omega (arith, count_closed (negated_in_brackets a) (written a) (written_operators a) (count_written a) ts)
count_written (Unary Not a) ts =
    omega (arith, count_closed (denied_in_brackets a) (written a) (written_operators a) (count_written a) ts)
count_written (Unary AmountOf a) ts = omega (arith, count_written a (K.Sign S.RightParen ∷ ts))
count_written (Unary KindOf a) ts = omega (arith, count_written a (K.Sign S.RightParen ∷ ts))
count_written (Make a b) ts =
    let us = K.Sign S.RightParen ∷ ts in
    omega (arith, count_written a (K.Sign S.Comma ∷ written b us), count_written b us)
count_written (Binary o a b) ts =
    let us = closed (right_in_brackets o b) (written b) ts in
    let vs = operator_token o ∷ us in
    let left = count_closed (left_in_brackets o a) (written a) (written_operators a) (count_written a) vs in
    let right = count_closed (right_in_brackets o b) (written b) (written_operators b) (count_written b) ts in
    omega (arith, left, count_operator o us, right)
count_written (If a b c) ts =
    let us = K.Word W.End ∷ ts in
    let vs = K.Word W.Else ∷ written c us in
    omega (arith, count_written a (K.Word W.Then ∷ written b vs), count_written b vs, count_written c us)

count_after : (es : List Expression) → CountsAhead (operators_of_all es) (written_after es)
unfolding CountsAhead
count_after [] ts = omega arith
count_after (e ∷ es) ts = omega (arith, count_written e (written_after es ts), count_after es ts)

count_listed : (es : List Expression) → CountsAhead (operators_of_all es) (written_listed es)
unfolding CountsAhead
count_listed [] ts = omega arith
count_listed (e ∷ es) ts = omega (arith, count_written e (written_after es ts), count_after es ts)

pub count_call :
    (f : Name) (es : List Expression) (ts : List Tok) →
    marked (written_call f es ts) ≡ operators_of_all es + marked ts
unfolding CountsAhead
count_call f es ts = omega (arith, count_listed es (K.Sign S.RightParen ∷ ts))

-- a part in brackets or not
count_part :
    (b : Bool) (c : Contract) → CountsAhead (contract_operators c) (written_contract c) →
    CountsAhead (contract_operators c) (closed b (written_contract c))
unfolding CountsAhead
count_part b c h = count_closed b (written_contract c) (contract_operators c) h

pub count_contract :
    (c : Contract) (ts : List Tok) → marked (written_contract c ts) ≡ contract_operators c + marked ts
unfolding CountsAhead
count_contract C.Success ts = omega arith
count_contract C.Failure ts = omega arith
count_contract (C.Transmit b p c) ts =
    let us = closed (nat_lt (contract_level c) 4) (written_contract c) ts in
    let after = count_part (nat_lt (contract_level c) 4) c (count_contract c) ts in
    omega (arith, count_written p (K.Sign S.RightParen ∷ K.Sign S.Dot ∷ us), after)
count_contract (C.Plus a b) ts =
    let us = closed (nat_le (contract_level b) 1) (written_contract b) ts in
    let left = count_part (nat_lt (contract_level a) 1) a (count_contract a) (K.Sign S.Plus ∷ us) in
    let right = count_part (nat_le (contract_level b) 1) b (count_contract b) ts in
    omega (arith, left, right)
count_contract (C.Par a b) ts =
    let us = closed (nat_le (contract_level b) 2) (written_contract b) ts in
    let left = count_part (nat_lt (contract_level a) 2) a (count_contract a) (K.Sign S.DoubleBar ∷ us) in
    let right = count_part (nat_le (contract_level b) 2) b (count_contract b) ts in
    omega (arith, left, right)
count_contract (C.Seq a b) ts =
    let us = closed (nat_le (contract_level b) 3) (written_contract b) ts in
    let left = count_part (nat_lt (contract_level a) 3) a (count_contract a) (K.Sign S.Semicolon ∷ us) in
    let right = count_part (nat_le (contract_level b) 3) b (count_contract b) ts in
    omega (arith, left, right)
count_contract (C.App f args) ts = count_call f args ts
