-- How much a call evaluates, and how much there is still to evaluate in its result.
use Rattle.std.specs.Prelude.{◌+◌, ◌≤◌, ℕ, List, map, sum_by, Result, IfOk}
use Rattle.poets_expr.specs.declared.expr.Expr.{Expr}
use Rattle.poets_expr.specs.Expression.{expression_of}
use Rattle.poets_syntax.specs.declared.term.Term.{Term}
use Rattle.poets_syntax.specs.Contract.{Contract, contract_of}
use Rattle.poets_meaning.specs.Studied.{StudiedBook}
use Rattle.poets_calculus.specs.InStudied.{normal_in}
use Rattle.poets_norm.specs.Questions.{operated, questions}

-- how many of the arguments have to be evaluated: those that are neither literals nor names
abbrev pub to_ask : List Expr → ℕ
to_ask args = sum_by operated (map expression_of args)

-- where there is a result, the evaluations that were made, and those that it may still take, are
-- within the limit
abbrev pub AsksWithin : {E : Type 0} → Result Term E → (asks limit : ℕ) → Type 0
AsksWithin result asks limit = IfOk result (λ r. asks + questions (contract_of r) ≤ limit)

-- what is evaluated for the normal form of the contract need not be evaluated again in it
abbrev pub AsksOnce : StudiedBook → Contract → (old new : ℕ) → Type 0
AsksOnce s c old new = new + questions (normal_in s c) ≤ old + questions c
