-- How many brackets are open at one place of a printed text, and how many operators it has.
use Rattle.std.specs.Prelude.{ℕ, zero, suc, ◌+◌, ◌≤◌, max, Bool, true, false, nat_lt, nat_le, List, [], ◌∷◌}
use Rattle.std.specs.Prelude.{ℤ, pos, negsuc}
use Rattle.poets_value.specs.declared.value.Value.{Value}
use Rattle.poets_value.specs.declared.value.Value.TheVariants as V
use Rattle.poets_expr.specs.Expression.{Expression, Minus, Not, AmountOf, KindOf, Literal, Undefined, Named, Unary}
use Rattle.poets_expr.specs.Expression.{Make, Binary, If}
use Rattle.poets_syntax.specs.Contract.{Contract, Success, Failure, Transmit, Plus, Par, Seq, App}
use Rattle.poets_lex.specs.declared.token.Tok.{Tok}
use Rattle.poets_lex.specs.declared.token.Sign.TheVariants as S
use Rattle.poets_lex.specs.declared.token.Tok.TheVariants as K
use Rattle.poets_grammar.specs.TooDeep.{is_operator}
use Rattle.poets_print.specs.Levels.{left_in_brackets, right_in_brackets, negated_in_brackets, denied_in_brackets}
use Rattle.poets_print.specs.Levels.{contract_level}

-- ---- brackets

-- the number before this one, and 0 for 0
abbrev pub one_less : ℕ → ℕ
one_less zero = zero
one_less (suc n) = n

-- the brackets that are open after one more token
abbrev pub opened : ℕ → Tok → ℕ
opened n (K.Sign S.LeftParen) = suc n
opened n (K.Sign S.RightParen) = one_less n
opened n _ = n

-- at most the number are open at each place, where n are open at the start
abbrev pub Fits : ℕ → ℕ → List Tok → Type 0
Fits most n [] = n ≤ most
Fits most n (t ∷ ts) = (n ≤ most) × Fits most (opened n t) ts

-- one bracket more, or none
abbrev pub deeper : Bool → ℕ → ℕ
deeper true d = suc d
deeper false d = d

-- the most brackets that are open at one place of the printed expression
abbrev pub depth : Expression → ℕ
depth (Literal v) = 0
depth (Undefined t) = 0
depth (Named x) = 0
depth (Unary Minus a) = deeper (negated_in_brackets a) (depth a)
depth (Unary Not a) = deeper (denied_in_brackets a) (depth a)
depth (Unary AmountOf a) = suc (depth a)
depth (Unary KindOf a) = suc (depth a)
depth (Make a b) = suc (max (depth a) (depth b))
depth (Binary o a b) = max (deeper (left_in_brackets o a) (depth a)) (deeper (right_in_brackets o b) (depth b))
depth (If a b c) = max (depth a) (max (depth b) (depth c))

-- the most at one place of any of the expressions
abbrev pub depth_of_all : List Expression → ℕ
depth_of_all [] = 0
depth_of_all (e ∷ es) = max (depth e) (depth_of_all es)

-- the most brackets that are open at one place of the printed contract
abbrev pub contract_depth : Contract → ℕ
contract_depth Success = 0
contract_depth Failure = 0
contract_depth (Transmit b p c) = max (suc (depth p)) (deeper (nat_lt (contract_level c) 4) (contract_depth c))
contract_depth (Plus a b) =
    max (deeper (nat_lt (contract_level a) 1) (contract_depth a))
    (deeper (nat_le (contract_level b) 1) (contract_depth b))
contract_depth (Par a b) =
    max (deeper (nat_lt (contract_level a) 2) (contract_depth a))
    (deeper (nat_le (contract_level b) 2) (contract_depth b))
contract_depth (Seq a b) =
    max (deeper (nat_lt (contract_level a) 3) (contract_depth a))
    (deeper (nat_le (contract_level b) 3) (contract_depth b))
contract_depth (App f args) = suc (depth_of_all args)

-- ---- operators

-- one more, or none
abbrev pub one_more : Bool → ℕ → ℕ
one_more true n = suc n
one_more false n = n

-- the operator tokens, counted one by one
abbrev pub marked : List Tok → ℕ
marked [] = 0
marked (t ∷ ts) = one_more (is_operator t) (marked ts)

-- the `-` of a number
abbrev pub sign_count : ℤ → ℕ
sign_count (pos n) = 0
sign_count (negsuc n) = 1

-- the operator tokens of the printed value
abbrev pub value_operators : Value → ℕ
value_operators (V.Int z) = sign_count z
value_operators (V.Resource r) = sign_count r.amount
value_operators _ = 0

-- the operator tokens of the printed expression
abbrev pub written_operators : Expression → ℕ
written_operators (Literal v) = value_operators v
written_operators (Undefined t) = 0
written_operators (Named x) = 0
written_operators (Unary Minus a) = suc (written_operators a)
written_operators (Unary Not a) = suc (written_operators a)
written_operators (Unary AmountOf a) = written_operators a
written_operators (Unary KindOf a) = written_operators a
written_operators (Make a b) = written_operators a + written_operators b
written_operators (Binary o a b) = suc (written_operators a + written_operators b)
written_operators (If a b c) = suc (written_operators a + (written_operators b + written_operators c))

-- the operator tokens of all the expressions
abbrev pub operators_of_all : List Expression → ℕ
operators_of_all [] = 0
operators_of_all (e ∷ es) = written_operators e + operators_of_all es

-- the operator tokens of the printed contract; the `.` of a transmit is one
abbrev pub contract_operators : Contract → ℕ
contract_operators Success = 0
contract_operators Failure = 0
contract_operators (Transmit b p c) = suc (written_operators p + contract_operators c)
contract_operators (Plus a b) = suc (contract_operators a + contract_operators b)
contract_operators (Par a b) = suc (contract_operators a + contract_operators b)
contract_operators (Seq a b) = suc (contract_operators a + contract_operators b)
contract_operators (App f args) = operators_of_all args
