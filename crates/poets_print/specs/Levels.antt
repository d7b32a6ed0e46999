-- Which parts of a printed tree are in brackets.
use Rattle.std.specs.Prelude.{ℕ, Bool, true, false, ◌||◌, nat_eq, nat_lt, nat_le, if◌then◌else◌}
use Rattle.poets_expr.specs.declared.expr.Op.{Op}
use Rattle.poets_value.specs.declared.value.Value.TheVariants as V
use Rattle.poets_expr.specs.Expression.{Expression, Minus, Not, Literal, Unary, Binary}
use Rattle.poets_syntax.specs.Contract.{Contract, Plus, Par, Seq}
use Rattle.poets_grammar.specs.Levels.{op_level}

-- how tightly an expression holds its parts together
abbrev pub level : Expression → ℕ
level (Binary o a b) = op_level o
level (Unary Not a) = 3
level (Unary Minus a) = 7
level _ = 8

-- a left part is in brackets where its level is below its parent's, and in a comparison also at the
-- same level
abbrev pub left_in_brackets : Op → Expression → Bool
left_in_brackets o a = if nat_eq (op_level o) 4 then nat_le (level a) 4 else nat_lt (level a) (op_level o)

-- a right part is in brackets where its level is not above its parent's
abbrev pub right_in_brackets : Op → Expression → Bool
right_in_brackets o b = nat_le (level b) (op_level o)

abbrev pub is_number : Expression → Bool
is_number (Literal (V.Int z)) = true
is_number _ = false

-- the part of a negation is in brackets where its level is below that of a negation, and where it
-- is a number
abbrev pub negated_in_brackets : Expression → Bool
negated_in_brackets a = is_number a || nat_lt (level a) 7

-- the part of `not` is in brackets where its level is below that of `not`
abbrev pub denied_in_brackets : Expression → Bool
denied_in_brackets a = nat_lt (level a) 3

-- `+` 1, `||` 2, `;` 3, all others 4
abbrev pub contract_level : Contract → ℕ
contract_level (Plus a b) = 1
contract_level (Par a b) = 2
contract_level (Seq a b) = 3
contract_level _ = 4
