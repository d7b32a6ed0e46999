use Rattle.poets_expr.proofs.WholeResults.{IsWhole-val, IsWhole-literal_of, IsWhole-subst, IsWhole-fold_closed}
use Rattle.poets_expr.proofs.laws.whole_results.Goals as goal

pub returns-clause-value : goal.returns-clause-value
returns-clause-value c = IsWhole-val

pub returns-clause-literal : goal.returns-clause-literal
returns-clause-literal c = IsWhole-literal_of

pub returns-clause-replaced : goal.returns-clause-replaced
returns-clause-replaced c = IsWhole-subst

pub returns-clause-folded : goal.returns-clause-folded
returns-clause-folded c = IsWhole-fold_closed
