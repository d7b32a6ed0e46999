-- What the definitions say of an `Expr` of the code, by its environments and tables of declared
-- names.
use Rattle.std.specs.Prelude.{Bool, List, Option, reverse}
use Rattle.poets_value.specs.declared.value.Name.{Name}
use Rattle.poets_value.specs.declared.value.Ty.{Ty}
use Rattle.poets_value.specs.declared.value.Value.{Value}
use Rattle.poets_expr.specs.declared.env.Decls.{Decls}
use Rattle.poets_expr.specs.declared.env.Env.{Env}
use Rattle.poets_expr.specs.declared.expr.Expr.{Expr}
use Rattle.poets_expr.specs.declared.expr.Given.{Given}
use Rattle.poets_expr.specs.Env.{declared_of}
use Rattle.poets_expr.specs.Expression.{Expression, expression_of}
use Rattle.poets_expr.specs.Fold.{is_folded, fold_closed}
use Rattle.poets_expr.specs.Subst.{subst}
use Rattle.poets_expr.specs.Val.{val}

-- the value of an `Expr` in an environment, of whose pairs a later one hides an earlier
abbrev pub value_of_expr : Env → Expr → Option Value
value_of_expr env e = val (declared_of env.decls.now.names) (reverse env.pairs.now) (expression_of e)

-- whether an `Expr` is closed under the declared names, and no literal yet
abbrev pub is_folded_expr : Decls → Expr → Bool
is_folded_expr decls e = is_folded (declared_of decls.names) (expression_of e)

-- the tree of an `Expr` once it is folded: the literal of its value, where it is closed and no
-- literal yet
abbrev pub folded_expr : Decls → Expr → Ty → Expression
folded_expr decls e ty = fold_closed (declared_of decls.names) (expression_of e) ty

-- the tree of an `Expr` with its names replaced, where a later pair hides an earlier one
abbrev pub subst_expr : List (Name × Given) → Expr → Expression
subst_expr pairs e = subst (reverse pairs) (expression_of e)
