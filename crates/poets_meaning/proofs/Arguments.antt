-- Replacing names by literals keeps the number of arguments.
use Rattle.std.proofs.Common.{◌≡◌, ◌+◌, refl, ap₂}
use Rattle.std.proofs.lemmas.List.{length-map}
use Rattle.poets_expr.specs.Subst.{Givens, subst}
use Rattle.poets_syntax.specs.Contract.{Contract, Success, Failure, Transmit, Plus, Par, Seq, App}
use Rattle.poets_syntax.specs.Replace.{without, replace}
use Rattle.poets_meaning.specs.Arguments.{arguments}

pub arguments-replace : (given : Givens) (c : Contract) → arguments (replace given c) ≡ arguments c
arguments-replace given Success = refl
arguments-replace given Failure = refl
arguments-replace given (Transmit b p c) = arguments-replace (without b given) c
arguments-replace given (Plus a b) = ap₂ (λ m n. m + n) (arguments-replace given a) (arguments-replace given b)
arguments-replace given (Par a b) = ap₂ (λ m n. m + n) (arguments-replace given a) (arguments-replace given b)
arguments-replace given (Seq a b) = ap₂ (λ m n. m + n) (arguments-replace given a) (arguments-replace given b)
arguments-replace given (App f args) = length-map args (subst given)
