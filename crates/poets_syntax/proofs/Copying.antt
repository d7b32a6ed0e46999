-- Where no name is replaced, the contract stays as it is.
use Rattle.std.proofs.Common.{◌≡◌, List, [], ◌∷◌, map, refl, ap, ap₂}
use Rattle.poets_expr.specs.Expression.{Expression}
use Rattle.poets_expr.specs.Subst.{subst}
use Rattle.poets_syntax.specs.Contract.{Contract, Success, Failure, Transmit, Plus, Par, Seq, App}
use Rattle.poets_syntax.specs.Replace.{replace}

subst-none : (e : Expression) → subst [] e ≡ e
subst-none (Expression.Literal v) = refl
subst-none (Expression.Undefined t) = refl
subst-none (Expression.Named x) = refl
subst-none (Expression.Unary o a) = ap (Expression.Unary o) (subst-none a)
subst-none (Expression.Make a b) = ap₂ Expression.Make (subst-none a) (subst-none b)
subst-none (Expression.Binary o a b) = ap₂ (Expression.Binary o) (subst-none a) (subst-none b)
subst-none (Expression.If a b c) = rw (subst-none a, subst-none b, subst-none c) refl

map-subst-none : (args : List Expression) → map (subst []) args ≡ args
map-subst-none [] = refl
map-subst-none (a ∷ args) = ap₂ (λ x xs. x ∷ xs) (subst-none a) (map-subst-none args)

pub replace-none : (c : Contract) → replace [] c ≡ c
replace-none Success = refl
replace-none Failure = refl
replace-none (Transmit b p c) = ap₂ (Transmit b) (subst-none p) (replace-none c)
replace-none (Plus a b) = ap₂ Plus (replace-none a) (replace-none b)
replace-none (Par a b) = ap₂ Par (replace-none a) (replace-none b)
replace-none (Seq a b) = ap₂ Seq (replace-none a) (replace-none b)
replace-none (App f args) = ap (App f) (map-subst-none args)
