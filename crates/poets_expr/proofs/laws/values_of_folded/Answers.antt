use Rattle.poets_expr.specs.Expression.{expression_of}
use Rattle.poets_expr.proofs.FoldClosed.{fold-val_undeclared, IsDeclared-kinds, IsDeclared-val}
use Rattle.poets_expr.proofs.laws.values_of_folded.Goals as goal

pub returns-clause-expression : goal.returns-clause-expression
returns-clause-expression c = fold-val_undeclared

pub returns-clause-expr : goal.returns-clause-expr
returns-clause-expr c = λ declared env e t k h. fold-val_undeclared declared env (expression_of e) t k (λ closed. IsDeclared-kinds declared e (h closed))

pub returns-clause-literals : goal.returns-clause-literals
returns-clause-literals c = IsDeclared-val
