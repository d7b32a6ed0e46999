-- What calls return, as contracts and expressions.
use Rattle.std.specs.Prelude.{◌≡◌, List, map, reverse, Result, IfOk}
use Rattle.poets_expr.specs.declared.expr.Expr.{Expr}
use Rattle.poets_expr.specs.Expression.{expression_of}
use Rattle.poets_expr.specs.Subst.{Givens, subst}
use Rattle.poets_syntax.specs.declared.term.Term.{Term}
use Rattle.poets_syntax.specs.Contract.{Contract, contract_of}

-- where there is a result, it is that contract
abbrev pub GivesContract : {E : Type 0} → Result Term E → Contract → Type 0
GivesContract result c = IfOk result (λ r. contract_of r ≡ c)

-- the second expressions are the first with their names replaced; of two pairs with one name the
-- later counts
abbrev pub AreReplaced : Givens → (args replaced : List Expr) → Type 0
AreReplaced pairs args replaced = map expression_of replaced ≡ map (subst (reverse pairs)) (map expression_of args)
