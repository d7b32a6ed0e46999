-- Whether a `||` stands in a contract, and whether its parallel parts are grouped to the left.
use Rattle.std.specs.Prelude.{Bool, true, false, ◌||◌, ◌&&◌}
use Rattle.poets_syntax.specs.Contract.{Contract, Success, Failure, Transmit, Plus, Par, Seq, App}

-- whether there is a `||` in the contract
abbrev pub has_parallel : Contract → Bool
has_parallel Success = false
has_parallel Failure = false
has_parallel (Transmit b p c) = has_parallel c
has_parallel (Plus a b) = has_parallel a || has_parallel b
has_parallel (Par a b) = true
has_parallel (Seq a b) = has_parallel a || has_parallel b
has_parallel (App f args) = false

-- whether the contract is no `||`
abbrev pub is_single : Contract → Bool
is_single (Par a b) = false
is_single _ = true

-- whether its parallel parts are grouped to the left
abbrev pub is_grouped : Contract → Bool
is_grouped (Par a b) = is_grouped a && is_single b
is_grouped _ = true
