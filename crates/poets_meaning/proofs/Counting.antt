-- The nodes of a list of expressions, counted one after the other.
use Rattle.std.proofs.Common.{◌≡◌, ℕ, ◌+◌, ◌<◌, List, [], ◌∷◌, ◌++◌, length, map, take, get_or, sym, ◌∙◌, ap, arith}
use Rattle.std.proofs.lemmas.List.{take_more, map-append}
use Rattle.poets_expr.specs.declared.expr.Expr.{Expr}
use Rattle.poets_expr.specs.Expression.{Expression, expression_of}
use Rattle.poets_expr.specs.Size.{nodes, nodes_of_all}

nodes_of_all_append : (args : List Expression) (a : Expression) → nodes_of_all (args ++ a ∷ []) ≡ nodes_of_all args + nodes a
nodes_of_all_append [] a = omega arith
nodes_of_all_append (b ∷ args) a = omega (arith, nodes_of_all_append args a)

-- one more expression of a list
pub nodes_of_more : (args : List Expr) (i : ℕ) (a : Expr) → i < length args → a ≡ get_or args i a →
    nodes_of_all (map expression_of (take (i + 1) args)) ≡ nodes_of_all (map expression_of (take i args)) + nodes (expression_of a)
nodes_of_more args i a h e =
    ap (λ xs. nodes_of_all (map expression_of xs)) (take_more args i a h)
    ∙ ap nodes_of_all (map-append expression_of (take i args) (get_or args i a ∷ []))
    ∙ nodes_of_all_append (map expression_of (take i args)) (expression_of (get_or args i a))
    ∙ ap (λ x. nodes_of_all (map expression_of (take i args)) + nodes (expression_of x)) (sym e)
