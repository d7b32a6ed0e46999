-- A test for equal contracts, binders' names included.
use Rattle.std.specs.Prelude.{Bool, true, false, ◌&&◌, List, [], ◌∷◌}
use Rattle.poets_expr.specs.Expression.{Expression}
use Rattle.poets_expr.specs.Env.{same_name}
use Rattle.poets_expr.specs.Same.{same}
use Rattle.poets_syntax.specs.declared.term.Binders.{Binders}
use Rattle.poets_syntax.specs.Contract.{Contract, Success, Failure, Transmit, Plus, Par, Seq, App}

-- the four names are the same
abbrev pub same_binders : Binders → Binders → Bool
same_binders a b =
    same_name a.sender b.sender && same_name a.receiver b.receiver && same_name a.what b.what && same_name a.day b.day

-- as many arguments, each equal to its counterpart
abbrev pub same_args : List Expression → List Expression → Bool
same_args [] [] = true
same_args (a ∷ xs) (b ∷ ys) = same a b && same_args xs ys
same_args _ _ = false

-- the same form with equal parts
abbrev pub same_contract : Contract → Contract → Bool
same_contract Success Success = true
same_contract Failure Failure = true
same_contract (Transmit b p c) (Transmit d q e) = same_binders b d && same p q && same_contract c e
same_contract (Plus a b) (Plus c d) = same_contract a c && same_contract b d
same_contract (Par a b) (Par c d) = same_contract a c && same_contract b d
same_contract (Seq a b) (Seq c d) = same_contract a c && same_contract b d
same_contract (App f xs) (App g ys) = same_name f g && same_args xs ys
same_contract _ _ = false
