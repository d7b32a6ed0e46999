-- How much there is to evaluate in a contract.
use Rattle.std.specs.Prelude.{ℕ, ◌+◌, sum_by}
use Rattle.poets_expr.specs.Expression.{Expression, Literal, Undefined, Named}
use Rattle.poets_syntax.specs.Contract.{Contract, Success, Failure, Transmit, Plus, Par, Seq, App}

-- 0 for a literal or a name, 1 for an expression with an operator
abbrev pub operated : Expression → ℕ
operated (Literal v) = 0
operated (Undefined t) = 0
operated (Named x) = 0
operated _ = 1

-- how much there is to evaluate: each predicate counts 1, and so does each argument that is neither
-- a literal, a name nor `undefined`
abbrev pub questions : Contract → ℕ
questions Success = 0
questions Failure = 0
questions (Transmit b p c) = 1 + questions c
questions (Plus a b) = questions a + questions b
questions (Par a b) = questions a + questions b
questions (Seq a b) = questions a + questions b
questions (App f args) = sum_by operated args
