-- The arguments in a contract.
use Rattle.std.specs.Prelude.{ℕ, ◌+◌, length}
use Rattle.poets_syntax.specs.Contract.{Contract, Success, Failure, Transmit, Plus, Par, Seq, App}

-- the number of argument expressions, those of continuations included
abbrev pub arguments : Contract → ℕ
arguments Success = 0
arguments Failure = 0
arguments (Transmit b p c) = arguments c
arguments (Plus a b) = arguments a + arguments b
arguments (Par a b) = arguments a + arguments b
arguments (Seq a b) = arguments a + arguments b
arguments (App f args) = length args
