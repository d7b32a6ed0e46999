-- A test for equal rows.
use Rattle.std.specs.Prelude.{Bool, true, false, ◌&&◌, nat_eq}
use Rattle.poets_expr.specs.Env.{same_name}
use Rattle.poets_expr.specs.Same.{same}
use Rattle.poets_syntax.specs.Same.{same_binders, same_args}
use Rattle.poets_cons.specs.Row.{Row, Success, Failure, Transmit, Plus, Par, Seq, App}

-- the same form with the same parts
abbrev pub same_row : Row → Row → Bool
same_row Success Success = true
same_row Failure Failure = true
same_row (Transmit b p c) (Transmit d q e) = same_binders b d && same p q && nat_eq c e
same_row (Plus a b) (Plus c d) = nat_eq a c && nat_eq b d
same_row (Par a b) (Par c d) = nat_eq a c && nat_eq b d
same_row (Seq a b) (Seq c d) = nat_eq a c && nat_eq b d
same_row (App f xs) (App g ys) = same_name f g && same_args xs ys
same_row _ _ = false
